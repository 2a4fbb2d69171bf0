-- What several reads of a source come to, after room that is before what is read.
use Rattle.std.proofs.Common.{◌≡◌, ◌≤◌, ◌+◌, ◌-◌, ◌++◌, ◌∙◌, ℕ, List, [], Option, Some, None, ap, arith, sym, subst, take, drop, length, replicate, append-nil, take_all, length-take-le}
use Rattle.std.specs.Io.KnownBytes.{Consumes, IsAtEnd}
use Rattle.std.proofs.KnownBytes.{Consumes-trans}
use Rattle.std.proofs.Math.Seq.{take-add}
use Rattle.std.proofs.lemmas.List.{take_at, take-take, drop-append-le, length-drop}
use Rattle.world.specs.Input.{IsFirst}

-- the room stays if the front does in which it lies
pub room_kept : (r f : ℕ) (old new : List ℕ) → r ≤ f → take f new ≡ take f old → take r old ≡ replicate r 0 → take r new ≡ replicate r 0
room_kept r f old new within front room =
    sym (take-take r f new within) ∙ ap (take r) front ∙ take-take r f old within ∙ room

-- how much was read, if the buffer was filled up to f
pub length_read : (r f : ℕ) (xs : List ℕ) → f ≤ length xs → length (drop r (take f xs)) ≡ f - r
length_read r f xs within = length-drop r (take f xs) ∙ ap (λ n. n - r) (length-take-le f xs within)

-- the buffer was filled up to f, and the new one keeps that front and has k bytes more
pub filled_more : (r : ℕ) (a b c : Option (List ℕ)) (old new : List ℕ) (f k : ℕ)
    → r ≤ f → f ≤ length old → take f new ≡ take f old → Consumes a b (drop r (take f old)) → Consumes b c (take k (drop f new))
    → Consumes a c (drop r (take (f + k) new))
filled_more r a b c old new f k room within front before read =
    let len : length (take f old) ≡ f = length-take-le f old within in
    let whole : take (f + k) new ≡ take f old ++ take k (drop f new) = take-add f k new ∙ ap (λ l. l ++ take k (drop f new)) front in
    subst (Consumes a c) (sym (ap (drop r) whole ∙ drop-append-le r (take f old) (take k (drop f new)) (omega (arith, len, room))))
    (Consumes-trans a b c (drop r (take f old)) (take k (drop f new)) before read)

-- a read of no byte changes nothing
pub none_more : (a b c : Option (List ℕ)) (bytes buffer : List ℕ) (k : ℕ) → k ≡ 0 → Consumes a b bytes → Consumes b c (take k buffer) → Consumes a c bytes
none_more a b c bytes buffer k zero before read =
    subst (Consumes a c) (append-nil bytes) (Consumes-trans a b c bytes [] before (subst (λ n. Consumes b c (take n buffer)) zero read))

-- all that remained was read
pub all_first : (n : ℕ) (a b : Option (List ℕ)) (bytes : List ℕ) → Consumes a b bytes → IsAtEnd b → length bytes ≤ n → IsFirst n a bytes
all_first n None b bytes read end few = tt
all_first n (Some all) None bytes read end few = absurd read
all_first n (Some all) (Some left) bytes read end few =
    let whole : all ≡ bytes = read ∙ ap (λ l. bytes ++ l) end ∙ append-nil bytes in
    sym (ap (take n) whole ∙ take_all n bytes few)

-- as many as were wanted were read
pub most_first : (n : ℕ) (a b : Option (List ℕ)) (bytes : List ℕ) → Consumes a b bytes → length bytes ≡ n → IsFirst n a bytes
most_first n None b bytes read many = tt
most_first n (Some all) None bytes read many = absurd read
most_first n (Some all) (Some left) bytes read many = sym (ap (take n) read ∙ take_at bytes left n many)
