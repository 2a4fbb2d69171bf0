-- Seats: each has seen a beginning of one history of entries, and has made some of these. K is the type of the
-- history's subject, and E that of an entry.
use Rattle.std.specs.Prelude.{◌≡◌, ℕ, ◌+◌, ◌-◌, ◌<◌, ◌≤◌, ◌==◌, List, [], ◌∷◌, ◌++◌, length, nat_lt, if◌then◌else◌}
use mathlib.Core.Option.{some}
use mathlib.Core.List.{IsPrefix}
use lib.ListN.{get_elem?}

abbrev pub whole_share : ℕ
whole_share = 4_294_967_296

abbrev pub longer : {A : Type 0} → List A → List A → List A
longer xs ys = if nat_lt (length xs) (length ys) then ys else xs

-- the sum over a list
abbrev pub total : {A : Type 0} → (A → ℕ) → List A → ℕ
total f [] = 0
total f (x ∷ xs) = f x + total f xs

-- how often x is in the list
abbrev pub occurrences : ℕ → List ℕ → ℕ
occurrences x ys = total (λ y. if y == x then 1 else 0) ys

-- what a seat knows: the subject of its history, a beginning of it that was seen (the front), the places in it of
-- the entries that the seat made, and a share. The histories in `met` were seen too, by seats that were joined in
pub record Sight (K E : Type 0) : Type 0 where
  pub key : K
  pub front : List E
  pub own : List ℕ
  pub share : ℕ
  pub met : List (List E)

-- each of these begins the history
abbrev pub AllBegin : {E : Type 0} → List E → List (List E) → Type 0
AllBegin log [] = Unit {0}
AllBegin log (f ∷ fs) = IsPrefix f log × AllBegin log fs

module _ {K E : Type 0} where
  -- the first seat: it has all shares, and has seen nothing
  abbrev pub opening_sight : K → Sight K E
  opening_sight k = record { key = k; front = []; own = []; share = whole_share; met = [] }

  -- a seat that was joined into another
  abbrev pub spent : K → Sight K E
  spent k = record { key = k; front = []; own = []; share = 0; met = [] }

  -- a seat that keeps these places and gives g of its share away, and a seat that gets these places and that share
  abbrev pub keeps_back : List ℕ → ℕ → Sight K E → Sight K E
  keeps_back places g v = record { key = v.key; front = v.front; own = places; share = v.share - g; met = v.met }

  abbrev pub given : List ℕ → ℕ → Sight K E → Sight K E
  given places g v = record { key = v.key; front = v.front; own = places; share = g; met = v.met }

  -- two seats in one. It isn't known yet that the shorter front is a beginning of the longer one, so both are kept
  -- in `met`
  abbrev pub absorbed : Sight K E → Sight K E → Sight K E
  absorbed v w = record {
    key = v.key;
    front = longer v.front w.front;
    own = v.own ++ w.own;
    share = v.share + w.share;
    met = v.front ∷ w.front ∷ v.met ++ w.met;
  }

  -- the seat after the entry e, which follows the history log
  abbrev pub added : Sight K E → List E → E → Sight K E
  added v log e = record {
    key = v.key;
    front = log ++ e ∷ [];
    own = v.own ++ length log ∷ [];
    share = v.share;
    met = [];
  }

  -- how often x is an own place
  abbrev pub owned : ℕ → Sight K E → ℕ
  owned x v = occurrences x v.own

  abbrev pub share_of : Sight K E → ℕ
  share_of v = v.share

  -- the front is a beginning of the history, and so are all histories in `met`; the own places are places of the
  -- front; with no share there are none
  pub record IsSightOf (key : K) (log : List E) (v : Sight K E) : Type 0 where
    pub same_key : 0 < v.share → v.key ≡ key
    pub rest : List E
    pub begins : v.front ++ rest ≡ log
    pub inside : (x : ℕ) → 0 < occurrences x v.own → x < length v.front
    pub idle : v.share ≡ 0 → v.own ≡ []
    pub met : AllBegin log v.met

  -- each seat has seen a beginning of the one history. No place is an own place of two seats; with all shares each
  -- place is some seat's own
  pub record AreSeats (key : K) (log : List E) (views : List (Sight K E)) : Type 0 where
    pub seats : (id : ℕ) (v : Sight K E) → get_elem? views id ≡ some v → IsSightOf key log v
    pub apart : (x : ℕ) → total (owned x) views ≤ 1
    pub shares : total share_of views ≤ whole_share
    pub every : total share_of views ≡ whole_share → (x : ℕ) → x < length log → 0 < total (owned x) views

  -- the entry e was made: the new front is legal, begins with the old one, and ends with e, which is one more own
  -- place. A seat with all shares has seen everything before it
  pub record Adds (Legal : K → List E → Type 0) (v : Sight K E) (e : E) (w : Sight K E) : Type 0 where
    pub between : List E
    pub grown : w ≡ added v (v.front ++ between) e
    pub legal : Legal v.key w.front
    pub alone : v.share ≡ whole_share → between ≡ []

-- what a seat learns from a look at the rule: all histories in `met` are beginnings of one; each own place occurs
-- once; and with all shares each place of the front is an own place
pub record Learned {K E : Type 0} (v : Sight K E) : Type 0 where
  pub log : List E
  pub met : AllBegin log v.met
  pub once : (x : ℕ) → occurrences x v.own ≤ 1
  pub shares : v.share ≤ whole_share
  pub every : v.share ≡ whole_share → (x : ℕ) → x < length v.front → 0 < occurrences x v.own
