-- The page at an entry, by the page that the entry names.
use Rattle.std.proofs.Common.{◌≡◌, ℕ, ◌<◌, ◌≤◌, refl, ap, ◌∙◌, sym, Option, Some, None}
use Rattle.rules.specs.Sheets.{page_at}
use Rattle.rules.specs.Signatures.{AreSidesIfGiven, entry_in}
use Rattle.rules.proofs.Signatures.{entry_at, page_hidden, page_of_entry, page_shown}

-- the page that an entry names
abbrev pub page_named : (sides : Option ℕ) → (e : ℕ) → ℕ
page_named None e = e
page_named (Some s) e = page_of_entry s e

at_named : (sides : Option ℕ) (n e : ℕ) → AreSidesIfGiven sides → entry_in sides n e ≡ page_at n (page_named sides e)
at_named None n e valid = refl
at_named (Some s) n e valid = entry_at s n e valid.0

pub entry_shown : (sides : Option ℕ) (n e p : ℕ) → AreSidesIfGiven sides → p ≡ page_named sides e → p < n → Some p ≡ entry_in sides n e
entry_shown sides n e p valid is lt = sym (at_named sides n e valid ∙ ap (page_at n) (sym is) ∙ page_shown n p lt)

pub entry_hidden : (sides : Option ℕ) (n e p : ℕ) → AreSidesIfGiven sides → p ≡ page_named sides e → n ≤ p → None ≡ entry_in sides n e
entry_hidden sides n e p valid is le = sym (at_named sides n e valid ∙ ap (page_at n) (sym is) ∙ page_hidden n p le)
