-- An item, as its reader parses it.
use Rattle.std.proofs.Common.{◌≡◌, ◌≢◌, ℕ, List, [], Bool, Some, None, sym, ap, ◌∙◌, length, min}
use Rattle.std.specs.Prelude.{if◌then◌else◌}
use Rattle.rules.specs.Numbers.{number_of}
use Rattle.lengths.specs.Reading.{digits, past_digits, is_empty}
use Rattle.lengths.proofs.Numbers.{taken}
use Rattle.pagespec.specs.Reading.{modifiers_at, is_minus_first, past_minus, item_with, item_from, item_at}
use Rattle.pagespec.specs.Parsed.{ModifiersRead, ItemRead}
use Rattle.pagespec.specs.declared.parsed.Modifiers.{Modifiers}

pub no_item : (t body : List ℕ) → body ≡ past_minus t → digits body ≡ [] → item_at t ≡ None
unfolding item_at
no_item t body b d = ap (item_from (is_minus_first t)) (sym b) ∙ ap (λ x. if is_empty x then None else Some (item_with (is_minus_first t) (number_of x) (modifiers_at (length (past_digits body)) (past_digits body)))) d

pub item_there : (t body rest behind : List ℕ) (from_end : Bool) (page : ℕ) (parsed : Modifiers) → from_end ≡ is_minus_first t → body ≡ past_minus t → digits body ≢ [] → page ≡ min 100_000 (number_of (digits body)) → rest ≡ past_digits body
    → ModifiersRead rest parsed behind → ItemRead t (record { from_end = from_end; page = page; modifiers = parsed }) behind
unfolding item_at
item_there t body rest behind from_end page parsed m b some p r (ms, found, shows) = (
  record { from_end = is_minus_first t; page = number_of (digits body); modifiers = ms },
  ap (item_from (is_minus_first t)) (sym b) ∙ (taken (digits body) _ some ∙ (ap (λ x. Some (item_with (is_minus_first t) (number_of (digits body)) (modifiers_at (length x) x))) (sym r) ∙ ap (λ x. Some (item_with (is_minus_first t) (number_of (digits body)) x)) found)),
  record { end = m; page = p; modifiers = shows },
)
