-- A preparer's own pages follow each other at the distance of the preparers' count.
use Rattle.std.proofs.Common.{◌≡◌, ◌≢◌, ◌∙◌, inl, inr, ⊎_elim, ℕ, zero, suc, ◌+◌, ◌-◌, ◌*◌, ◌/◌, ◌<◌, ◌≤◌, ◌%◌, ◌==◌, if◌then◌else◌, min, length, false, refl, sym, ap, subst, arith}
use Rattle.std.proofs.lemmas.Bool.{ne_eqb, cases_lt}
use Rattle.std.proofs.lemmas.Nat.{div-add-mod', mod_below, mod-mul-add, same_from_place}
use Rattle.rules.specs.Sheets.{Plan, Layout, layout}
use Rattle.rules.specs.Seats.{total}
use Rattle.sheet_plan.specs.Places.{places_of}
use Rattle.run_steps.specs.Duty.{Duty, duties, is_place, most_puts, share_below}
use Rattle.handover.specs.Passes.{puts_in}
use Rattle.imposer.specs.Rooms.{HasRoomFrom, PutsByRight}
use Rattle.imposer.specs.declared.tokens.Tokens.{Tokens}
use Rattle.imposer.proofs.ByRight.{next_share, own_share, room_at_first, room_behind, sheets_same}

-- two numbers that leave the same one, when they are divided, aren't less than the divisor apart
apart : (q r c n j : ℕ) → n < c → 0 < j → j < c → r * c + n ≡ q * c + (n + j) → ⊥
apart q r c n j below after before e = ⊎_elim
    (λ (less : n + j < c). let same = same_from_place r n q (n + j) c below less e in omega (arith, same.1, after))
    (λ (more : c ≤ n + j).
    let one_on : r * c + n ≡ (q + 1) * c + (n + j - c) = omega (arith, e, more) in
    let same = same_from_place r n (q + 1) (n + j - c) c below (omega (arith, below, before, more)) one_on in
    omega (arith, same.1, before, more))
    (cases_lt (n + j) c)

-- a page between one of the preparer's own and the next isn't its own
not_own : (count number p j : ℕ) → 0 < count → p % count ≡ number → 0 < j → j < count → (p + j) % count ≢ number
not_own count number p j some own after before is =
    let below : number < count = subst (λ k. k < count) is (mod_below (p + j) count some) in
    let here = div-add-mod' p count in
    let there = div-add-mod' (p + j) count in
    apart (p / count) ((p + j) / count) count number j below after before (omega (arith, here, there, own, is))

-- so what it owes doesn't grow by these
pub passed_over : (h : Duty → ℕ) (l : Layout) (count number p k : ℕ) → 0 < count → p % count ≡ number → k < count
    → share_below h l count number (p + 1 + k) ≡ share_below h l count number (p + 1)
passed_over h l count number p zero some own less = ap (share_below h l count number) (omega arith)
passed_over h l count number p (suc k) some own less =
    let e : suc (p + 1 + k) ≡ p + 1 + suc k = omega arith in
    let at : p + suc k ≡ p + 1 + k = omega arith in
    let other : (p + 1 + k) % count == number ≡ false =
    ne_eqb ((p + 1 + k) % count) number (subst (λ m. m % count ≢ number) at (not_own count number p (suc k) some own (omega arith) less)) in
    let none : (if (p + 1 + k) % count == number then total h (duties l (p + 1 + k)) else 0) ≡ 0 =
    ap (λ b. if b then total h (duties l (p + 1 + k)) else 0) other in
    let rest = passed_over h l count number p k some own (omega (arith, less)) in
    subst (λ m. share_below h l count number m ≡ share_below h l count number (p + 1)) e (omega (arith, none, rest))

-- it owes nothing for the pages before its first
pub none_before : (h : Duty → ℕ) (l : Layout) (count number n : ℕ) → 0 < count → n ≤ number → share_below h l count number n ≡ 0
none_before h l count number zero some few = refl
none_before h l count number (suc n) some few =
    let other : n % count == number ≡ false = ne_eqb (n % count) number (λ is. not_below is) in
    let none : (if n % count == number then total h (duties l n) else 0) ≡ 0 = ap (λ b. if b then total h (duties l n) else 0) other in
    let rest = none_before h l count number n some (omega (arith, few)) in
    omega (arith, none, rest)
  where
    not_below : n % count ≡ number → ⊥
    not_below is =
        let whole = div-add-mod' n count in
        omega (arith, whole, is, few)

-- the first of its own, and the next
pub own_first : (count number : ℕ) → number < count → number % count ≡ number
own_first count number below =
    let alone : 0 * count + number ≡ number = omega arith in
    subst (λ m. m % count ≡ number) alone (mod-mul-add 0 count number below)

pub own_next : (count number p : ℕ) → 0 < count → p % count ≡ number → (p + count) % count ≡ number
own_next count number p some own =
    let whole = div-add-mod' p count in
    let next : (p / count + 1) * count + p % count ≡ p + count = omega (arith, whole) in
    subst (λ k. k % count ≡ number) next (mod-mul-add (p / count + 1) count (p % count) (mod_below p count some) ∙ own)

-- what it owes for this page and those up to the next of its own
pub owed_next : (h : Duty → ℕ) (l : Layout) (count number p n : ℕ) → 0 < count → p % count ≡ number → p < n
    → share_below h l count number (min (p + count) n) ≡ share_below h l count number (p + 1)
owed_next h l count number p n some own within =
    let k = min (p + count) n - (p + 1) in
    let at : p + 1 + k ≡ min (p + count) n = omega (arith, some, within) in
    subst (λ m. share_below h l count number m ≡ share_below h l count number (p + 1)) at (passed_over h l count number p k some own (omega (arith, some, within)))

-- what it has done, with this page
pub done_next : (h : Duty → ℕ) (l : Layout) (count number p n old new : ℕ) → 0 < count → p % count ≡ number → p < n
    → old ≡ share_below h l count number (min p n) → new ≡ old + total h (duties l p) → new ≡ share_below h l count number (min (p + count) n)
done_next h l count number p n old new some own within was now =
    let here : min p n ≡ p = omega (arith, within) in
    let before = subst (λ m. old ≡ share_below h l count number m) here was in
    let more = own_share h l count number p own in
    let same = owed_next h l count number p n some own within in
    omega (arith, now, before, more, same)

-- what it has done past the last page
pub done_all : (h : Duty → ℕ) (l : Layout) (count number p n old : ℕ) → n ≤ p → old ≡ share_below h l count number (min p n) → old ≡ share_below h l count number n
done_all h l count number p n old past is = let last : min p n ≡ n = omega (arith, past) in subst (λ m. old ≡ share_below h l count number m) last is

-- the room that it has, where it owes as much
room_on : (l : Layout) (count number a b : ℕ) (tokens : Tokens) → share_below is_place l count number a ≡ share_below is_place l count number b
    → HasRoomFrom l count number a tokens → HasRoomFrom l count number b tokens
room_on l count number a b tokens same room = ⊎_elim
    (λ (x : share_below is_place l count number l.pages ≤ puts_in tokens.pass.room + share_below is_place l count number a). inl (omega (arith, x, same)))
    (λ y. inr y)
    room

-- the room at its first page, and from the next on
pub room_first : (l : Layout) (count number : ℕ) (tokens : Tokens) → number < count → most_puts l count number ≤ puts_in tokens.pass.room
    → HasRoomFrom l count number (min number l.pages) tokens
room_first l count number tokens below enough =
    let none = none_before is_place l count number (min number l.pages) (omega (arith, below)) (omega arith) in
    room_on l count number 0 (min number l.pages) tokens (sym none) (room_at_first l count number tokens enough)

pub room_here : (l : Layout) (count number p : ℕ) (tokens : Tokens) → p < l.pages → HasRoomFrom l count number (min p l.pages) tokens → HasRoomFrom l count number p tokens
room_here l count number p tokens within room =
    let here : min p l.pages ≡ p = omega (arith, within) in subst (λ m. HasRoomFrom l count number m tokens) here room

pub room_next : (l : Layout) (count number p : ℕ) (old new : Tokens) → 0 < count → p % count ≡ number → p < l.pages
    → HasRoomFrom l count number (min p l.pages) old → PutsByRight l p old new → HasRoomFrom l count number (min (p + count) l.pages) new
room_next l count number p old new some own within room puts =
    room_on l count number (p + 1) (min (p + count) l.pages) new (sym (owed_next is_place l count number p l.pages some own within))
    (room_behind l count number p old new own (room_here l count number p old within room) puts)

-- the count of its puts, with this page and those up to the next of its own
pub most_next : (l : Layout) (count number p pages puts next n : ℕ) → 0 < count → p % count ≡ number → p < pages
    → puts ≡ min (share_below is_place l count number (min p pages)) n → next ≡ min (puts + length (places_of l p)) n
    → next ≡ min (share_below is_place l count number (min (p + count) pages)) n
most_next l count number p pages puts next n some own within is after =
    let here : min p pages ≡ p = omega (arith, within) in
    let now = subst (λ m. puts ≡ min (share_below is_place l count number m) n) here is in
    let more = next_share l count number p own in
    let same = owed_next is_place l count number p pages some own within in
    omega (arith, now, more, after, same)

-- of all its pages
pub most_of_all : (plan : Plan) (count number p puts : ℕ) → plan.pages ≤ p
    → puts ≡ min (share_below is_place (layout plan) count number (min p plan.pages)) (length plan.sheets)
    → puts ≡ most_puts (layout plan) count number
most_of_all plan count number p puts past is =
    let at : min p plan.pages ≡ plan.pages = omega (arith, past) in
    let owed = ap (share_below is_place (layout plan) count number) at in
    let same = sheets_same plan in
    omega (arith, is, owed, same)
