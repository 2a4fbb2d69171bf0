use Rattle.std.proofs.Common.{◌≡◌, ℕ, List, length, vec_len, false, ◌+◌, ◌*◌, ◌<◌, ◌≤◌, ◌∙◌, sym, ap, subst, arith, rules, w64, get_or}
use Rattle.std.specs.Int.{trailing_zeros}
use Rattle.std.specs.FinSet as set
use Rattle.imposer.specs.SheetNumbers.{IsSmallest, HasNoneBelow, numbers, has_number}
use Rattle.imposer.proofs.Passing.{one_less}
use Rattle.imposer.proofs.Counted.{moved_on, filled, blank_word, none_past, none_before, none_below_first, some_counted, counted_less}
use Rattle.imposer.proofs.sheet_set.SheetSet.take_first_before.Goals as goal

-- `next_filled` was given the words
by_words : (given words : List ℕ) (first next : ℕ) → given ≡ words → ((k : ℕ) → 64 * first ≤ k → k < 64 * next → has_number given k ≡ false)
    → (k : ℕ) → 64 * first ≤ k → k < 64 * next → has_number words k ≡ false
by_words given words first next e h k low high = ap (λ (xs : List ℕ). has_number xs k) (sym e) ∙ h k low high

behind_words : (given words : List ℕ) (next end : ℕ) → given ≡ words → (get_or given next 0 ≡ 0 → next < length given → end ≤ 64 * next)
    → get_or words next 0 ≡ 0 → next < length words → end ≤ 64 * next
behind_words given words next end e h none there = h (ap (λ (xs : List ℕ). get_or xs next 0) e ∙ none) (subst (λ (xs : List ℕ). next < length xs) (sym e) there)

counted_words : (words given : List ℕ) (n : ℕ) → given ≡ words → length given ≡ n → length words ≡ n
counted_words words given n e l = ap length (sym e) ∙ l

within_words : (words : List ℕ) (next n m : ℕ) → length words ≡ m → n ≡ m → next < n → next < length words
within_words words next n m l e lt = omega (arith, l, e, lt)

pub returns-then-self-len-clause-none : goal.returns-then-self-len-clause-none
returns-then-self-len-clause-none c =
    let blank = by_words c.deref.result.now c.self.inside.words.items c.self.inside.first c.next_filled-self-inside.result c.deref.ensures.value c.next_filled-self-inside.ensures.blank in
    let a = moved_on c.self.inside.words.items c.self.inside.first c.next_filled-self-inside.result c.self.inside.count c.self.invariant blank in
    let len = counted_words c.self.inside.words.items c.deref.result.now (vec_len c.self.inside.words) c.deref.ensures.value c.deref.ensures.len in
    let past : length c.self.inside.words.items ≤ c.next_filled-self-inside.result = omega (arith, len, c.len.ensures, c.if-self-len.true) in
    subst (λ s. HasNoneBelow s c.args.end) c.self.view_is (none_past c.self.inside.words.items c.next_filled-self-inside.result c.self.inside.count c.args.end a past)

pub returns-then-bits-eq0-clause-none : goal.returns-then-bits-eq0-clause-none
returns-then-bits-eq0-clause-none c =
    let blank = by_words c.deref.result.now c.self.inside.words.items c.self.inside.first c.next_filled-self-inside.result c.deref.ensures.value c.next_filled-self-inside.ensures.blank in
    let a = moved_on c.self.inside.words.items c.self.inside.first c.next_filled-self-inside.result c.self.inside.count c.self.invariant blank in
    let len = counted_words c.self.inside.words.items c.deref.result.now (vec_len c.self.inside.words) c.deref.ensures.value c.deref.ensures.len in
    let there : c.next_filled-self-inside.result < length c.self.inside.words.items = within_words c.self.inside.words.items c.next_filled-self-inside.result c.len.result (vec_len c.self.inside.words) len c.len.ensures c.if-self-len.false in
    let none = blank_word c.self.inside.words.items c.next_filled-self-inside.result c.index-bits.result.now c.index-bits.ensures there c.if-bits-eq0.true in
    let end = behind_words c.deref.result.now c.self.inside.words.items c.next_filled-self-inside.result c.args.end c.deref.ensures.value c.next_filled-self-inside.ensures.after none there in
    subst (λ s. HasNoneBelow s c.args.end) c.self.view_is (none_before c.self.inside.words.items c.next_filled-self-inside.result c.self.inside.count c.args.end a end)

pub returns-then-sheet-end-clause-none : goal.returns-then-sheet-end-clause-none
returns-then-sheet-end-clause-none c =
    let blank = by_words c.deref.result.now c.self.inside.words.items c.self.inside.first c.next_filled-self-inside.result c.deref.ensures.value c.next_filled-self-inside.ensures.blank in
    let a = moved_on c.self.inside.words.items c.self.inside.first c.next_filled-self-inside.result c.self.inside.count c.self.invariant blank in
    let len = counted_words c.self.inside.words.items c.deref.result.now (vec_len c.self.inside.words) c.deref.ensures.value c.deref.ensures.len in
    let there : c.next_filled-self-inside.result < length c.self.inside.words.items = within_words c.self.inside.words.items c.next_filled-self-inside.result c.len.result (vec_len c.self.inside.words) len c.len.ensures c.if-self-len.false in
    let first = (filled c.self.inside.words.items c.next_filled-self-inside.result c.self.inside.count c.index-bits.result.now a c.index-bits.ensures there c.if-bits-eq0.false (search rules)) in
    subst (λ s. HasNoneBelow s c.args.end) c.self.view_is (none_below_first (numbers c.self.inside.words.items) (c.next_filled-self-inside.result * 64 + trailing_zeros w64 c.index-bits.result.now) c.args.end first c.if-sheet-end.true)

pub overflow_sub-self : goal.overflow_sub-self
overflow_sub-self c =
    let blank = by_words c.deref.result.now c.self.inside.words.items c.self.inside.first c.next_filled-self-inside.result c.deref.ensures.value c.next_filled-self-inside.ensures.blank in
    let a = moved_on c.self.inside.words.items c.self.inside.first c.next_filled-self-inside.result c.self.inside.count c.self.invariant blank in
    let len = counted_words c.self.inside.words.items c.deref.result.now (vec_len c.self.inside.words) c.deref.ensures.value c.deref.ensures.len in
    let there : c.next_filled-self-inside.result < length c.self.inside.words.items = within_words c.self.inside.words.items c.next_filled-self-inside.result c.len.result (vec_len c.self.inside.words) len c.len.ensures c.if-self-len.false in
    let first = (filled c.self.inside.words.items c.next_filled-self-inside.result c.self.inside.count c.index-bits.result.now a c.index-bits.ensures there c.if-bits-eq0.false (search rules)) in
    some_counted c.self.inside.words.items c.next_filled-self-inside.result c.self.inside.count (c.next_filled-self-inside.result * 64 + trailing_zeros w64 c.index-bits.result.now) a first.member

pub invariant_of-self-2 : goal.invariant_of-self-2
invariant_of-self-2 c =
    let blank = by_words c.deref.result.now c.self.inside.words.items c.self.inside.first c.next_filled-self-inside.result c.deref.ensures.value c.next_filled-self-inside.ensures.blank in
    let a = moved_on c.self.inside.words.items c.self.inside.first c.next_filled-self-inside.result c.self.inside.count c.self.invariant blank in
    let len = counted_words c.self.inside.words.items c.deref.result.now (vec_len c.self.inside.words) c.deref.ensures.value c.deref.ensures.len in
    let there : c.next_filled-self-inside.result < length c.self.inside.words.items = within_words c.self.inside.words.items c.next_filled-self-inside.result c.len.result (vec_len c.self.inside.words) len c.len.ensures c.if-self-len.false in
    let first = (filled c.self.inside.words.items c.next_filled-self-inside.result c.self.inside.count c.index-bits.result.now a c.index-bits.ensures there c.if-bits-eq0.false (search rules)) in
    counted_less c.self.inside.words.items c.clear_bit.new.words.items c.next_filled-self-inside.result c.self.inside.count (c.next_filled-self-inside.result * 64 + trailing_zeros w64 c.index-bits.result.now) a c.clear_bit.ensures.len c.clear_bit.ensures.cleared first.member

pub returns-clause-first : goal.returns-clause-first
returns-clause-first c =
    let blank = by_words c.deref.result.now c.self.inside.words.items c.self.inside.first c.next_filled-self-inside.result c.deref.ensures.value c.next_filled-self-inside.ensures.blank in
    let a = moved_on c.self.inside.words.items c.self.inside.first c.next_filled-self-inside.result c.self.inside.count c.self.invariant blank in
    let len = counted_words c.self.inside.words.items c.deref.result.now (vec_len c.self.inside.words) c.deref.ensures.value c.deref.ensures.len in
    let there : c.next_filled-self-inside.result < length c.self.inside.words.items = within_words c.self.inside.words.items c.next_filled-self-inside.result c.len.result (vec_len c.self.inside.words) len c.len.ensures c.if-self-len.false in
    subst (λ s. IsSmallest s (c.next_filled-self-inside.result * 64 + trailing_zeros w64 c.index-bits.result.now)) c.self.view_is (filled c.self.inside.words.items c.next_filled-self-inside.result c.self.inside.count c.index-bits.result.now a c.index-bits.ensures there c.if-bits-eq0.false (search rules))

pub returns-clause-taken : goal.returns-clause-taken
returns-clause-taken c =
    one_less c.self.inside.words.items c.clear_bit.new.words.items (c.next_filled-self-inside.result * 64 + trailing_zeros w64 c.index-bits.result.now) c.clear_bit.ensures.cleared
    ∙ ap (λ s. set.remove s (c.next_filled-self-inside.result * 64 + trailing_zeros w64 c.index-bits.result.now)) c.self.view_is
