-- Where the calls of a course are.
use Rattle.std.proofs.Common.{◌≡◌, ⊎_elim, ℕ, zero, suc, ◌+◌, ◌≤◌, List, [], ◌∷◌, ◌++◌, length, refl, sym, ap, ◌∙◌, subst, arith, append_assoc, append-nil, length-append}
use Rattle.std.specs.Prelude.{Some, slice_get}
use mathlib.Core.List.{IsPrefix}
use Rattle.rules.specs.Seats.{occurrences, longer}
use Rattle.rules.specs.SeatCalls.{HistorySeat, IsSeat, Made, Split, Met, Joined}
use Rattle.rules.specs.SeatLaws.{Course, Rests, Calls, Meets, Gives, TakesIn, Then, InTwo, CourseStands, Goes, CoursesStandInOneHistory}
use Rattle.rules.proofs.SeatFronts.{begins_self, begins_further, length_begins}
use Rattle.rules.proofs.SeatRuns.{last_there}
use Rattle.rules.proofs.SeatTotals.{times-append, times_push}

module _ {E : Type 0} where
  there_later : (log more : List E) (x : ℕ) (e : E) → slice_get log x ≡ Some e → slice_get (log ++ more) x ≡ Some e
  there_later [] more x e at = absurd (cc)
  there_later (y ∷ log) more zero e at = at
  there_later (y ∷ log) more (suc x) e at = there_later log more x e at

  -- a course that is in a history is also in a longer one, and before any later place
  course_later : (log later : List E) (n m m' : ℕ) (places : List ℕ) (c : Course E) → IsPrefix log later → m ≤ m' → CourseStands log n m places c → CourseStands later n m' places c
  course_later log later n m m' places Rests p le s = (omega (arith, s.0), s.1)
  course_later log later n m m' places (Calls e) p le s = (s.0, s.1, omega (arith, s.2), subst (λ (l : List E). slice_get l s.0 ≡ Some e) p.1 (there_later log p.0 s.0 e s.3), s.4)
  course_later log later n m m' places Meets p le s = (omega (arith, s.0), s.1)
  course_later log later n m m' places Gives p le s = (omega (arith, s.0), s.1)
  course_later log later n m m' places TakesIn p le s = (omega (arith, s.0), s.1)
  course_later log later n m m' places (Then c d) p le s = (s.0, s.1, s.2, course_later log later n s.0 s.0 s.1 c p (omega arith) s.3, course_later log later s.0 m m' s.2 d p le s.4, s.5)
  course_later log later n m m' places (InTwo c d) p le s = (s.0, s.1, course_later log later n m m' s.0 c p le s.2, course_later log later n m m' s.1 d p le s.3, s.4)

module _ {K E : Type 0} (Legal : K → List E → Type 0) where
  -- what the law says of a course, except for the seat at its end
  record Stands (old : HistorySeat K E) (c : Course E) (new : HistorySeat K E) : Type 0 where
    begins : IsPrefix old.front new.front
    places : List ℕ
    calls : CourseStands new.front (length old.front) (length new.front) places c
    own : (x : ℕ) → occurrences x old.own + occurrences x places ≤ occurrences x new.own
    same : (new.table ≡ old.table) × (new.key ≡ old.key)

  -- a step that makes no call
  still : (old new : HistorySeat K E) (c : Course E) (begins : IsPrefix old.front new.front) → CourseStands new.front (length old.front) (length new.front) [] c → ((x : ℕ) → occurrences x old.own ≤ occurrences x new.own)
      → (new.table ≡ old.table) × (new.key ≡ old.key) → Stands old c new
  still old new c begins calls own same = record { begins = begins; places = []; calls = calls; own = λ x. let o = own x in omega arith; same = same }

  called : (old new : HistorySeat K E) (e : E) → Made Legal old e new → Stands old (Calls e) new
  called old new e m = subst (λ (z : HistorySeat K E). Stands old (Calls e) z) (sym m.grown) (record {
    begins = (m.between ++ e ∷ [], sym (append_assoc old.front m.between (e ∷ [])));
    places = length log ∷ [];
    calls = (length log, omega (arith, length-append old.front m.between), omega (arith, length-append log (e ∷ [])), ap (λ (l : List E). slice_get l (length log)) (sym (append-nil (log ++ e ∷ []))) ∙ last_there log [] e, refl);
    own = λ x. let t = times_push x old.own (length log) in omega arith;
    same = (refl, refl);
  })
    where
      log : List E
      log = old.front ++ m.between

  met_as : (old new other : HistorySeat K E) (front : List E) → IsPrefix old.front front → new ≡ record old { front = front } → Stands old Meets new
  met_as old new other front p is = subst (λ (z : HistorySeat K E). Stands old Meets z) (sym is) (still old (record old { front = front }) Meets p (length_begins old.front front p, refl) (λ x. omega arith) (refl, refl))

  in_two : (old one two one' two' new : HistorySeat K E) (c d : Course E) → Split Legal old one two → Stands one c one' → Stands two d two' → Joined Legal one' two' new → Stands old (InTwo c d) new
  in_two old one two one' two' new c d s first second j = subst (λ (z : HistorySeat K E). Stands old (InTwo c d) z) (sym j.joined) (record {
    begins = begins_further old.front one'.front end (subst (λ (z : HistorySeat K E). IsPrefix z.front one'.front) s.keeps first.begins) j.agree.one;
    places = first.places ++ second.places;
    calls = (
      first.places,
      second.places,
      course_later one'.front end _ _ _ first.places c j.agree.one (length_begins _ _ j.agree.one) (subst (λ (z : HistorySeat K E). CourseStands one'.front (length z.front) (length one'.front) first.places c) s.keeps first.calls),
      course_later two'.front end _ _ _ second.places d j.agree.two (length_begins _ _ j.agree.two) (subst (λ (z : HistorySeat K E). CourseStands two'.front (length z.front) (length two'.front) second.places d) s.gives second.calls),
      refl,
    );
    own = λ x.
        let t = times-append x first.places second.places in
        let u = times-append x one'.own two'.own in
        let a = first.own x in
        let b = second.own x in
        let kept : occurrences x one.own ≡ occurrences x old.own = ap (λ (z : HistorySeat K E). occurrences x z.own) s.keeps in
        omega arith;
    same = (first.same.0 ∙ ap (λ (z : HistorySeat K E). z.table) s.keeps, first.same.1 ∙ ap (λ (z : HistorySeat K E). z.key) s.keeps);
  })
    where
      end : List E
      end = longer one'.front two'.front

  in_two_back : (old one two one' two' new : HistorySeat K E) (c d : Course E) → Split Legal old one two → Stands one c one' → Stands two d two' → Joined Legal two' one' new → Stands old (InTwo c d) new
  in_two_back old one two one' two' new c d s first second j = subst (λ (z : HistorySeat K E). Stands old (InTwo c d) z) (sym j.joined) (record {
    begins = begins_further old.front one'.front end (subst (λ (z : HistorySeat K E). IsPrefix z.front one'.front) s.keeps first.begins) j.agree.two;
    places = first.places ++ second.places;
    calls = (
      first.places,
      second.places,
      course_later one'.front end _ _ _ first.places c j.agree.two (length_begins _ _ j.agree.two) (subst (λ (z : HistorySeat K E). CourseStands one'.front (length z.front) (length one'.front) first.places c) s.keeps first.calls),
      course_later two'.front end _ _ _ second.places d j.agree.one (length_begins _ _ j.agree.one) (subst (λ (z : HistorySeat K E). CourseStands two'.front (length z.front) (length two'.front) second.places d) s.gives second.calls),
      refl,
    );
    own = λ x.
        let t = times-append x first.places second.places in
        let u = times-append x two'.own one'.own in
        let a = first.own x in
        let b = second.own x in
        let kept : occurrences x one.own ≡ occurrences x old.own = ap (λ (z : HistorySeat K E). occurrences x z.own) s.keeps in
        omega arith;
    same = (second.same.0 ∙ ap (λ (z : HistorySeat K E). z.table) s.gives, second.same.1 ∙ ap (λ (z : HistorySeat K E). z.key) s.gives);
  })
    where
      end : List E
      end = longer two'.front one'.front

  taken_in : (old new other : HistorySeat K E) → Joined Legal old other new → Stands old TakesIn new
  taken_in old new other j = subst (λ (z : HistorySeat K E). Stands old TakesIn z) (sym j.joined)
      (still old _ TakesIn j.agree.one (length_begins _ _ j.agree.one, refl) (λ x. let t = times-append x old.own other.own in omega arith) (refl, refl))

  taken_by : (old new other : HistorySeat K E) → other.table ≡ old.table → other.key ≡ old.key → Joined Legal other old new → Stands old TakesIn new
  taken_by old new other table key j = subst (λ (z : HistorySeat K E). Stands old TakesIn z) (sym j.joined)
      (still old _ TakesIn j.agree.two (length_begins _ _ j.agree.two, refl) (λ x. let t = times-append x other.own old.own in omega arith) (table, key))

  stands : (old new : HistorySeat K E) (c : Course E) → Goes Legal old c new → Stands old c new
  stands old new Rests g = subst (λ (z : HistorySeat K E). Stands old Rests z) g (still old old Rests (begins_self old.front) (omega arith, refl) (λ x. omega arith) (refl, refl))
  stands old new (Calls e) g = called old new e g
  stands old new Meets g = ⊎_elim
      (λ (m : Met Legal old g.0 new g.1). met_as old new g.0 (longer old.front g.0.front) m.agree.one m.one)
      (λ (m : Met Legal g.0 old g.1 new). met_as old new g.0 (longer g.0.front old.front) m.agree.two m.two)
      g.2
  stands old new Gives g = subst (λ (z : HistorySeat K E). Stands old Gives z) (sym g.1.keeps) (still old _ Gives (begins_self old.front) (omega arith, refl) (λ x. omega arith) (refl, refl))
  stands old new TakesIn g = ⊎_elim (λ (j : Joined Legal old g.0 new). taken_in old new g.0 j) (λ j. taken_by old new g.0 j.0 j.1 j.2) g.1
  stands old new (Then c d) g =
      let one = stands old g.0 c g.1 in
      let two = stands g.0 new d g.2 in
      record {
        begins = begins_further old.front g.0.front new.front one.begins two.begins;
        places = one.places ++ two.places;
        calls = (length g.0.front, one.places, two.places, course_later g.0.front new.front _ _ _ one.places c two.begins (omega arith) one.calls, two.calls, refl);
        own = λ x. let t = times-append x one.places two.places in let a = one.own x in let b = two.own x in omega arith;
        same = (two.same.0 ∙ one.same.0, two.same.1 ∙ one.same.1);
      }
  stands old new (InTwo c d) g =
      let one = stands g.0 g.2 c g.5 in
      let two = stands g.1 g.3 d g.6 in
      ⊎_elim (λ (j : Joined Legal g.2 g.3 new). in_two old g.0 g.1 g.2 g.3 new c d g.4 one two j) (λ (j : Joined Legal g.3 g.2 new). in_two_back old g.0 g.1 g.2 g.3 new c d g.4 one two j) g.7

  seat_goes : (old new : HistorySeat K E) (c : Course E) → IsSeat Legal old → Goes Legal old c new → IsSeat Legal new
  seat_goes old new Rests k g = subst (IsSeat Legal) g k
  seat_goes old new (Calls e) k g = g.after
  seat_goes old new Meets k g = ⊎_elim (λ (m : Met Legal old g.0 new g.1). m.seats.0) (λ (m : Met Legal g.0 old g.1 new). m.seats.1) g.2
  seat_goes old new Gives k g = g.1.seats.0
  seat_goes old new TakesIn k g = ⊎_elim (λ (j : Joined Legal old g.0 new). j.seat) (λ j. j.2.seat) g.1
  seat_goes old new (Then c d) k g = seat_goes g.0 new d (seat_goes old g.0 c k g.1) g.2
  seat_goes old new (InTwo c d) k g = ⊎_elim (λ (j : Joined Legal g.2 g.3 new). j.seat) (λ (j : Joined Legal g.3 g.2 new). j.seat) g.7

  pub courses_stand : CoursesStandInOneHistory Legal
  courses_stand old new c k g =
      let s = stands old new c g in
      let seat = seat_goes old new c k g in
      record {
        legal = subst (λ (key : K). Legal key new.front) s.same.1 seat.legal;
        begins = s.begins;
        places = s.places;
        calls = s.calls;
        own = s.own;
        once = seat.once;
        same = s.same;
      }
