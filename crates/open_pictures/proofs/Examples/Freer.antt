-- A freer form of an operator that the machine has: `]` takes an array within the array, and makes a value of it that is known by
-- what it was made of. It takes what the operator itself doesn't, and is blind.
use Rattle.std.proofs.Common.{◌≡◌, ℕ, List, [], ◌∷◌, refl, Some, None, false, ap, sym, subst, true≢false, is_none}
use Rattle.std.specs.Prelude.{codes, Option, option_map}
use Rattle.pictures.specs.Objects.{Token, Number, Object, Array, Mark, Kind, Computes, CloseArray, Font}
use Rattle.pictures.specs.Dictionaries.{DictionaryEntry}
use Rattle.pictures.specs.Operators.{with_operands, collected, gathered}
use Rattle.pictures.specs.Shifted.{ups, AgreeShifted, up_work}
use Rattle.pictures.specs.Scanner.{tokens}
use Rattle.pictures.specs.Documents.{started}
use Rattle.open_pictures.specs.Machine.{open_step}
use Rattle.open_pictures.specs.Blindness.{IsBlind}
use Rattle.open_pictures.specs.Operators.{Table, Blind, Visible, Outcome, AtName, AtOperands, by_table, TakesOthers, AsksForNone, AllAskForNone}
use Rattle.open_pictures.proofs.Operators.{tables_are_blind}
use Rattle.pictures.proofs.Examples.TwoUp.{end_by}

-- `[ [..] ]`, and no more: a value that is known by what it was made of
abbrev nested : List Object → Visible → Option Outcome
nested (Array ts ∷ Mark ∷ os) sight =
    Some (record { next = []; past = None; work = with_operands sight.work (Font ts ∷ os); kept = sight.kept; strokes = [] })
nested os sight = None

abbrev close : Blind
close sight = nested sight.work.operands sight

abbrev forms : List ℕ → Kind → Option Blind
forms name (Computes CloseArray) = Some close
forms name kind = None

abbrev table : Table
table = record { names = λ name. None; forms = forms }

never : {A : Type 0} (x : A) → None ≡ Some x → ⊥
never x e = true≢false (ap is_none e)

close_is : (f : Blind) → Some close ≡ Some f → close ≡ f
close_is f e = ap blind_of e
  where
    blind_of : Option Blind → Blind
    blind_of None = close
    blind_of (Some g) = g

outside : (os : List Object) (sight : Visible) (o : Outcome) → nested os sight ≡ Some o → gathered (collected [] os) sight.work ≡ None
outside (Array ts ∷ Mark ∷ os) sight o e = refl
outside os sight o e = absurd (never o e)

takes_others : TakesOthers table
takes_others name (Computes CloseArray) f sight o e k =
    outside sight.work.operands sight o (subst (λ g. g sight ≡ Some o) (sym (close_is f e)) k)
takes_others name kind f sight o e k = absurd (never f e)

abbrev made_of : List Token → List Object → Visible → Outcome
made_of ts os sight = record { next = []; past = None; work = with_operands sight.work (Font ts ∷ os); kept = sight.kept; strokes = [] }

asks_on : (n : ℕ) (os : List Object) (sight : Visible) (o : Outcome) (es : List DictionaryEntry) → AgreeShifted n es sight.work.entries → nested os sight ≡ Some o
    → (fs : List DictionaryEntry) × (nested (ups os) (record sight { work = up_work es sight.work }) ≡ Some (record o { work = up_work fs o.work })) × AgreeShifted n fs o.work.entries
asks_on n (Array ts ∷ Mark ∷ os) sight o es a e =
    subst (λ z. (fs : List DictionaryEntry) × (nested (Array ts ∷ Mark ∷ ups os) (record sight { work = up_work es sight.work }) ≡ Some (record z { work = up_work fs z.work })) × AgreeShifted n fs z.work.entries)
    (ap (outcome_or (made_of ts os sight)) e) (es, refl, a)
  where
    outcome_or : Outcome → Option Outcome → Outcome
    outcome_or o None = o
    outcome_or o (Some z) = z
asks_on n os sight o es a e = absurd (never o e)

all_ask : AllAskForNone table
all_ask (AtName name) f e = absurd (never f e)
all_ask (AtOperands name (Computes CloseArray)) f e =
    subst (λ g. AsksForNone g) (close_is f e) (λ n sight o es k a. asks_on n sight.work.operands sight o es a k)
all_ask (AtOperands name kind) f e = absurd (never f e)

blind : IsBlind (by_table table)
blind = tables_are_blind table takes_others all_ask

abbrev left_by : List ℕ → Option (List Object)
left_by text = option_map (λ s. s.work.operands) (end_by (open_step (by_table table) false) 1000 (started (tokens text)))

-- what the machine takes it makes as before
as_before : left_by (codes "[1 2]") ≡ Some (Array (Number (codes "1") ∷ Number (codes "2") ∷ []) ∷ [])
as_before = refl

within : left_by (codes "[[1 2]]") ≡ Some (Font (Number (codes "1") ∷ Number (codes "2") ∷ []) ∷ [])
within = refl
