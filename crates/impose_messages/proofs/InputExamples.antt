-- Worked examples: what an input is that is no document.
use Rattle.std.proofs.Common.{◌≡◌, [], ◌∷◌, refl, map}
use Rattle.std.specs.Prelude.{codes}
use Rattle.dsc.specs.declared.errors.DscError.TheVariants.{NoMemory, NoPages, NotPostScript, TooLong}
use Rattle.imposer.specs.declared.outcome.RunError.TheVariants as run
use Rattle.impose_messages.specs.declared.fault.ImposeFault.TheVariants as fault
use Rattle.impose_messages.specs.Inputs.{refused_document}

-- five bytes tell a PDF, and no other ones
shortest_pdf : refused_document NotPostScript (codes "%PDF-") ≡ fault.Pdf
shortest_pdf = refl

no_pdf : map (refused_document NotPostScript) (codes "%PDF" ∷ codes "%pdf-1.4" ∷ codes " %PDF-1.4" ∷ codes "\n" ∷ []) ≡ fault.Run (run.Document NotPostScript) ∷ fault.Run (run.Document NotPostScript) ∷ fault.Run (run.Document NotPostScript) ∷ fault.Run (run.Document NotPostScript) ∷ []
no_pdf = refl

-- in one order of bytes and in the other
utf_16 : map (refused_document NotPostScript) ((255 ∷ 254 ∷ 37 ∷ 0 ∷ []) ∷ (254 ∷ 255 ∷ 0 ∷ 37 ∷ []) ∷ (255 ∷ 37 ∷ []) ∷ []) ≡ fault.Utf16 ∷ fault.Utf16 ∷ fault.Run (run.Document NotPostScript) ∷ []
utf_16 = refl

no_gzip : map (refused_document NotPostScript) ((31 ∷ []) ∷ (139 ∷ 31 ∷ []) ∷ (31 ∷ 8 ∷ 139 ∷ []) ∷ []) ≡ fault.Run (run.Document NotPostScript) ∷ fault.Run (run.Document NotPostScript) ∷ fault.Run (run.Document NotPostScript) ∷ []
no_gzip = refl

-- a document that is too long by itself is told apart from one that its guard makes so
too_long : refused_document TooLong (codes "%!") ≡ fault.TooLong
too_long = refl

no_eps : map (refused_document NoPages) (codes "%!PS-Adobe-3.0\n%%Title: EPSF-3.0\n" ∷ codes "%!PS-Adobe-3.0 EPSF" ∷ codes "%!EPSF-3.0" ∷ []) ≡ fault.Run (run.Document NoPages) ∷ fault.Run (run.Document NoPages) ∷ fault.Run (run.Document NoPages) ∷ []
no_eps = refl

no_memory : refused_document NoMemory (codes "%!") ≡ fault.Run (run.NoMemory 0)
no_memory = refl
