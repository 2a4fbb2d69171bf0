use Rattle.std.proofs.Common.{ℕ, List, Result, Ok, Err, OnErr, ◌≡◌, ◌∙◌, sym, ap, arith, true, false}
use Rattle.std.specs.FinSet as set
use Rattle.imposer.specs.SheetNumbers.{has_number}
use Rattle.imposer.proofs.Passing.{same_numbers, one_more, there_already}
use Rattle.imposer.proofs.Counted.{blank_words_more, counted_more, count_is_small}
use Rattle.imposer.proofs.sheet_set.SheetSet.insert.Goals as goal

on_err : {P A E : Type 0} → P → (r : Result A E) → OnErr r P
on_err p (Ok x) = tt
on_err p (Err e) = p

pub invariant_of-self : goal.invariant_of-self
invariant_of-self c =
    blank_words_more c.self.inside.words.items c.cover.new.words.items c.self.inside.first c.self.inside.count c.self.invariant c.cover.ensures.same c.cover.ensures.few

pub returns-in_err-cover-clause-refused : goal.returns-in_err-cover-clause-refused
returns-in_err-cover-clause-refused c = let same = same_numbers c.self.inside.words.items c.cover.new.words.items c.cover.ensures.same ∙ c.self.view_is in on_err same c.from_residual.result

pub overflow_add-self : goal.overflow_add-self
overflow_add-self c = let s = count_is_small c.self.inside.words.items c.self.inside.first c.self.inside.count c.self.invariant in omega (arith, s)

pub invariant_of-self-then-not-has_bit : goal.invariant_of-self-then-not-has_bit
invariant_of-self-then-not-has_bit c =
    let kept = blank_words_more c.self.inside.words.items c.cover.new.words.items c.self.inside.first c.self.inside.count c.self.invariant c.cover.ensures.same c.cover.ensures.few in
    let absent : has_number c.cover.new.words.items c.args.sheet ≡ false = ap (λ (xs : List ℕ). has_number xs c.args.sheet) (sym c.deref.ensures.value) ∙ sym c.has_bit.ensures ∙ c.if-not-has_bit.true in
    rw c.min-self-inside.ensures (counted_more c.cover.new.words.items c.set_bit.new.words.items c.self.inside.first c.self.inside.count c.args.sheet kept c.set_bit.ensures.len c.set_bit.ensures.set absent)

pub invariant_of-self-else-not-has_bit : goal.invariant_of-self-else-not-has_bit
invariant_of-self-else-not-has_bit c =
    blank_words_more c.self.inside.words.items c.cover.new.words.items c.self.inside.first c.self.inside.count c.self.invariant c.cover.ensures.same c.cover.ensures.few

pub returns-then-not-has_bit-clause-inserted : goal.returns-then-not-has_bit-clause-inserted
returns-then-not-has_bit-clause-inserted c =
    one_more c.cover.new.words.items c.set_bit.new.words.items c.args.sheet c.set_bit.ensures.set
    ∙ ap (λ s. set.insert s c.args.sheet) (same_numbers c.self.inside.words.items c.cover.new.words.items c.cover.ensures.same ∙ c.self.view_is)

pub returns-else-not-has_bit-clause-inserted : goal.returns-else-not-has_bit-clause-inserted
returns-else-not-has_bit-clause-inserted c =
    let there : has_number c.cover.new.words.items c.args.sheet ≡ true = ap (λ (xs : List ℕ). has_number xs c.args.sheet) (sym c.deref.ensures.value) ∙ sym c.has_bit.ensures ∙ c.if-not-has_bit.false in
    sym (there_already c.cover.new.words.items c.args.sheet there)
    ∙ ap (λ s. set.insert s c.args.sheet) (same_numbers c.self.inside.words.items c.cover.new.words.items c.cover.ensures.same ∙ c.self.view_is)
