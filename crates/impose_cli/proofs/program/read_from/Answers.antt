use Rattle.std.proofs.Common.{◌≡◌, ◌≤◌, ◌+◌, ◌∙◌, ℕ, List, Option, Some, None, ap, arith, subst, sym, take, drop, length, replicate}
use Rattle.std.proofs.lemmas.List.{length-replicate, take-append-drop, length-append}
use Rattle.world.specs.Input.{IsFirst, document_in, most_bytes}
use Rattle.impose_cli.specs.Programs.{IsReadOf}
use Rattle.impose_cli.proofs.program.read_from.Goals as goal

-- so much room is no longer than what it stands in
room_within : (n : ℕ) (xs : List ℕ) → take n xs ≡ replicate n 0 → n ≤ length xs
room_within n xs room =
    let front : length (take n xs) ≡ n = ap length room ∙ length-replicate n 0 in
    let whole : length xs ≡ length (take n xs) + length (drop n xs)
    = ap length (sym (take-append-drop n xs)) ∙ length-append (take n xs) (drop n xs) in
    omega (arith, front, whole)

-- the document in what was read
read_of : (given : Option (List ℕ)) (input document : List ℕ) → IsFirst most_bytes given input → document ≡ document_in input → IsReadOf given document
read_of None input document first is = tt
read_of (Some all) input document first is = is ∙ ap document_in first

pub roomy_document-requires : goal.roomy_document-requires
roomy_document-requires g c = omega (arith, room_within 2560 c.in-Ok.bytes.items c.in-Ok.ensures.room, c.in-Ok.bytes.ok.0)

pub returns-in-Ok-clause-read : goal.returns-in-Ok-clause-read
returns-in-Ok-clause-read g c =
    read_of _ _ _
    (subst (λ given. IsFirst most_bytes given (drop 2560 c.in-Ok.bytes.items)) c.new-source.ensures.remaining c.in-Ok.ensures.read)
    c.roomy_document.ensures
