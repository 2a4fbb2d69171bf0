-- Each kind of papers is that of the largest one that is left.
use Rattle.std.proofs.Common.{arith, ◌≡◌, ℕ, zero, suc, ◌<◌, List, [], ◌∷◌, false, length, get_or}
use Rattle.std.specs.Prelude.{fold}
use Rattle.rules.specs.Papers.{Paper}
use Rattle.papers.specs.Own.{counts_as_one}
use Rattle.papers.specs.declared.kinds.PaperKind.{PaperKind}
use Rattle.papers.specs.AsOne.{KindsAreOfLargest, apart_from, is_larger, kind_of, kinds, larger_of, most_kinds}
use Rattle.papers.proofs.AnyOrder.{found, largest_in, none_larger, was_left}
use Rattle.papers.proofs.CountedAsOne.{In, contained, left_over}

record IsLargest (ps : List Paper) (ks : List PaperKind) (i : ℕ) (d : PaperKind) : Type 0 where
  pub is_in : In (get_or ks i d).first ps
  pub is_left : (h : ℕ) → h < i → counts_as_one (get_or ks i d).first (get_or ks h d).first ≡ false
  pub no_larger : (p : Paper) → In p ps → ((h : ℕ) → h < i → counts_as_one p (get_or ks h d).first ≡ false) → is_larger p (get_or ks i d).first ≡ false

of_largest : (room : ℕ) (ps : List Paper) (i : ℕ) (d : PaperKind) → i < length (kinds room ps) → IsLargest ps (kinds room ps) i d
of_largest zero ps i d less = absurd (omega (arith, less))
of_largest (suc room) [] i d less = absurd (omega (arith, less))
of_largest (suc room) (p ∷ ps) zero d less = record {
  is_in = largest_in p ps;
  is_left = λ h before. absurd (omega (arith, before));
  no_larger = λ q has left. none_larger p ps q has;
}
of_largest (suc room) (p ∷ ps) (suc i) d less =
    let f : Paper = fold larger_of p ps in
    let rest : List PaperKind = kinds room (apart_from f (p ∷ ps)) in
    let next = of_largest room (apart_from f (p ∷ ps)) i d (omega (arith, less)) in
    let was = was_left f (p ∷ ps) (get_or rest i d).first next.is_in in
    record {
      is_in = was.0;
      is_left = at_each (get_or rest i d).first (kind_of f (p ∷ ps)) rest d i was.1 next.is_left;
      no_larger = λ q has left. next.no_larger q (left_over f (p ∷ ps) q has (left 0 (omega arith))) (λ h before. left (suc h) (omega (arith, before)));
    }
  where
    at_each : (q : Paper) (k : PaperKind) (ks : List PaperKind) (d : PaperKind) (i : ℕ) → counts_as_one q k.first ≡ false → ((h : ℕ) → h < i → counts_as_one q (get_or ks h d).first ≡ false)
        → (h : ℕ) → h < suc i → counts_as_one q (get_or (k ∷ ks) h d).first ≡ false
    at_each q k ks d i first more zero before = first
    at_each q k ks d i first more (suc h) before = more h (omega (arith, before))

pub kinds_are_of_largest : KindsAreOfLargest
kinds_are_of_largest taken i d less =
    let is = of_largest most_kinds taken i d less in
    record {
      is_taken = found taken (get_or (kinds most_kinds taken) i d).first is.is_in;
      is_left = is.is_left;
      none_larger = λ p has left. is.no_larger p (contained taken p has) left;
    }
