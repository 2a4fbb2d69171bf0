-- The numbers of workers that are found lie from 1 to 16, and that of sides from 4 to 1,000,000: clap took no other values for
-- them.
use Rattle.std.proofs.Common.{◌≡◌, ◌∙◌, ◌<◌, ◌≤◌, ◌^◌, ap, refl, sym, subst, true, map, List, [], ◌∷◌, ℕ, zero, suc, length, arith, get_or, inl, inr, Option, Some, None, unwrap_or}
use Rattle.std.specs.Prelude.{codes, pos, ⊤, option_map, slice_get}
use Rattle.std.specs.Borrow.{Bor}
use Rattle.std.specs.List.{All, list_all}
use Rattle.std.specs.Str.{bytes_eq}
use Rattle.std.specs.Str.Parse.{ParsesUnsigned}
use Rattle.std.proofs.lemmas.List.{length-map}
use Rattle.std.proofs.lemmas.List.Elements.{All-get_or}
use Rattle.std.proofs.lemmas.Slice.Eq.{bytes_eq-Decides}
use Rattle.clap.specs.Facts.{Entry, EntryPasses, HasReading, PassesArg, ValuesPass, args_of, groups_of, parser_of_value}
use Rattle.clap.specs.Built.{FitsChain, HasDistinctIds, IsParsedFrom, IsPlainArg}
use Rattle.clap.specs.Matches.{found_of, matched_of, one_text}
use Rattle.clap.specs.Lexer.{without_minus}
use Rattle.clap.specs.Simple.{app_of}
use Rattle.clap.specs.Values.{Accepts, IsSignedIn, read_as, reading_of}
use Rattle.clap.specs.Words.{Rule, Text, one_of, rows_of, rule_of}
use Rattle.clap.specs.declared.builder.arg.Arg.{Arg}
use Rattle.clap.specs.declared.builder.command.Command.{Command}
use Rattle.clap.specs.declared.builder.value_parser.Reading.{Reading}
use Rattle.clap.specs.declared.builder.value_parser.Reading.TheVariants.{WithoutMinus}
use Rattle.clap.specs.declared.builder.value_parser.ValueParser.TheVariants.{Signed}
use Rattle.clap.specs.declared.parser.matches.ArgMatches.{ArgMatches}
use Rattle.clap.specs.declared.parser.matches.Found.{Found}
use Rattle.clap.specs.declared.parser.matches.MatchedArg.{MatchedArg}
use Rattle.clap.proofs.CallerLemmas.{entry_by_id, same_rules_by_id}
use Rattle.clap.proofs.CallerReads.{signed_reads}
use Rattle.clap.proofs.SimpleLemmas.{plain_fields}
use Rattle.clap.proofs.WalkLemmas.{one_text-rows}
use Rattle.imposer.specs.Workers.{AreWorkers}
use Rattle.command_words.specs.Arguments.{are_distinct, stands_by_itself}
use Rattle.command_words.specs.Matches.{number_named, u32_of}
use Rattle.command_words.proofs.Chain.{distinct, each_fits}
use Rattle.command_words.proofs.Numerals.{reads_number}
use Rattle.pstops_cli.specs.Command.{counted_rule, pstops, ranged_rule, rules, sides_found, workers_found}
use Rattle.pstops_cli.specs.Values.{AreInRange, count_named, letter_j, letter_k, letter_s}
use Rattle.pstops_cli.proofs.SimpleCommand.{each_rule_fits, pstops_has_rules, pstops_is_plain, rules_are_distinct}

-- ---- a text as a number

in_range : (low high : ℕ) (text : List ℕ) → high < 2 ^ 32 → IsSignedIn (pos low) (pos high) text → (n : ℕ) × (u32_of (without_minus text) ≡ Some n) × (low ≤ n) × (n ≤ high)
in_range low high text stands_by_itself passed =
    signed_reads ⊤ (λ bs r. ParsesUnsigned 32 10 bs r) 32 low high text (u32_of (without_minus text)) (reads_number (without_minus text)) (λ u x g. g) stands_by_itself passed

-- ---- an argument of the program by its place

rule_at : (xs : List Arg) (k : ℕ) (d : Arg) (r : Rule) → k < length xs → rule_of (get_or xs k d) ≡ get_or (map rule_of xs) k r
rule_at [] k d r lt = absurd (omega arith)
rule_at (x ∷ xs) zero d r lt = refl
rule_at (x ∷ xs) (suc k) d r lt = rule_at xs k d r (omega arith)

pub some_arg : (xs : List Arg) → map rule_of xs ≡ rules → Arg
some_arg [] e = let bad : 0 ≡ 11 = ap length e in absurd (omega (arith, bad))
some_arg (x ∷ xs) e = x

-- ---- what is found of an argument with a range

-- the first of the values, where it is read so
first_read : (P : Bor (List ℕ) → Type 0) (how : Reading) (vs : List (Bor (List ℕ))) (t : List ℕ) → All P vs
    → option_map (λ s. read_as how s.now) (slice_get vs 0) ≡ Some t
    → (v : Bor (List ℕ)) × (t ≡ read_as how v.now) × P v
first_read P how [] t all e = cc
first_read P how (v ∷ vs) t all e = (v, ap (λ o. unwrap_or o t) (sym e), All-get_or P (v ∷ vs) 0 v (omega arith) all)

-- what an entry of an id gives: a text that passed the parser of this id, read as that parser says
entry_text : (c : Command) (id : List ℕ) (Q : List ℕ → Type 0) (how : Reading) (x : MatchedArg) (e : Entry) (t : List ℕ)
    → groups_of c ≡ [] → (id ≡ [] → ⊥) → ((r : Reading) → HasReading c id r → r ≡ how) → ((w : List ℕ) → PassesArg c id w → Q w)
    → e.1 ≡ x → e.0.now ≡ id → EntryPasses c e → option_map (λ s. read_as x.reading s.now) (slice_get x.vals.items 0) ≡ Some t
    → (text : List ℕ) × (t ≡ read_as how text) × Q text
entry_text c id Q how x e t no_groups named reads passes same_x key_id pass found =
    let no_group : e.1.is_group ≡ true → ⊥ = λ g. elim (pass.3 g) [
      | inl empty ↦ named (sym key_id ∙ empty)
      | inr some ↦
          let bad : 0 < 0 = rw no_groups at some in
          absurd (omega arith)
    ] in
    let all : All (λ v. PassesArg c id v.now) x.vals.items = elim pass.0 [
      | inl g ↦ absurd (no_group g)
      | inr vals ↦ subst (λ (w : List ℕ). All (λ v. PassesArg c w v.now) x.vals.items) key_id (rw same_x at vals)
    ] in
    let is : e.1.reading ≡ how = elim pass.4 [
      | inl g ↦ absurd (no_group g)
      | inr h ↦ reads e.1.reading (subst (λ (w : List ℕ). HasReading c w e.1.reading) key_id h)
    ] in
    finish (first_read (λ v. PassesArg c id v.now) x.reading x.vals.items t all found) (ap (λ (y : MatchedArg). y.reading) (sym same_x) ∙ is)
  where
    finish : ((v : Bor (List ℕ)) × (t ≡ read_as x.reading v.now) × PassesArg c id v.now) → x.reading ≡ how
        → (text : List ℕ) × (t ≡ read_as how text) × Q text
    finish first is = (first.0.now, first.1 ∙ ap (λ r. read_as r first.0.now) is, passes first.0.now first.2)

-- what is read of an id
id_text : (c : Command) (f : Found) (id : List ℕ) (Q : List ℕ → Type 0) (how : Reading) (t : List ℕ) → ValuesPass c f
    → groups_of c ≡ [] → (id ≡ [] → ⊥) → ((r : Reading) → HasReading c id r → r ≡ how) → ((w : List ℕ) → PassesArg c id w → Q w)
    → one_text f id ≡ Some t → (text : List ℕ) × (t ≡ read_as how text) × Q text
id_text c f id Q how t values no_groups named reads passes = go (matched_of f id) refl
  where
    step : (x : MatchedArg) → option_map (λ s. read_as x.reading s.now) (slice_get x.vals.items 0) ≡ Some t
        → ((e : Entry) × (e.1 ≡ x) × (bytes_eq e.0.now id ≡ true) × EntryPasses c e) → (text : List ℕ) × (t ≡ read_as how text) × Q text
    step x first got = entry_text c id Q how x got.0 t no_groups named reads passes got.1 ((bytes_eq-Decides got.0.0.now id).0 got.2) got.3 first

    go : (o : Option MatchedArg) → matched_of f id ≡ o → one_text f id ≡ Some t → (text : List ℕ) × (t ≡ read_as how text) × Q text
    go None e found =
        let bad : None ≡ Some t = rw e at found in
        cc
    go (Some x) e found = step x (rw e at found) (entry_by_id (EntryPasses c) f.entries.items id x values e)

module _ (c : Command) (m : ArgMatches) (is : app_of c ≡ pstops) (p : IsParsedFrom c m) (k : ℕ) (d : Arg) (lt : k < length (args_of c))
    (least most : ℕ) (few : most < 2 ^ 32) (ranged : (get_or (args_of c) k d).value_parser ≡ Some (Signed (pos least) (pos most))) where
  rules_are : map rule_of (args_of c) ≡ rules
  rules_are = ap (λ a. a.top.rules) is ∙ pstops_has_rules

  each : All FitsChain (args_of c)
  each = each_fits (args_of c) (ap (list_all stands_by_itself) rules_are ∙ each_rule_fits)

  apart : HasDistinctIds (args_of c)
  apart = distinct (args_of c) (ap are_distinct rules_are ∙ rules_are_distinct)

  no_groups : groups_of p.built ≡ []
  no_groups =
      let plain = plain_fields c (ap (λ a. a.top.is_plain) is ∙ pstops_is_plain) in
      let all : All IsPlainArg (args_of c) = λ j e low. (each j e low).0 in
      (p.from.plain (all, plain.groups)).1

  one_with_id : (j : ℕ) (x : Arg) → j < length (args_of p.built) → get_or (args_of p.built) j x ≡ x
      → bytes_eq x.id.now (get_or (args_of c) k d).id.now ≡ true → x.value_parser ≡ Some (Signed (pos least) (pos most))
  one_with_id j x high at same =
      let rules = same_rules_by_id c m p k d lt (λ i e low met. apart i k d e low lt met) (each k d lt).3 j x high at same in
      rules.parser (Signed (pos least) (pos most)) ranged

  accepted : (w : List ℕ) → PassesArg p.built (get_or (args_of c) k d).id.now w → IsSignedIn (pos least) (pos most) w
  accepted w (j, x, high, at, (same, pass)) =
      subst (λ q. Accepts x.ignore_case (parser_of_value q) w) (one_with_id j x high at same) pass

  read_so : (r : Reading) → HasReading p.built (get_or (args_of c) k d).id.now r → r ≡ WithoutMinus
  read_so r (j, x, high, at, (same, reading)) = sym reading ∙ ap (λ q. reading_of (parser_of_value q)) (one_with_id j x high at same)

  found_text : (t : List ℕ) → one_text (found_of m) (get_or (args_of c) k d).id.now ≡ Some t
      → (text : List ℕ) × (t ≡ without_minus text) × IsSignedIn (pos least) (pos most) text
  found_text t =
      let parsed = p.parsed (p.from.globals ∙ (plain_fields c (ap (λ a. a.top.is_plain) is ∙ pstops_is_plain)).globals) in
      id_text p.built (found_of m) (get_or (args_of c) k d).id.now (IsSignedIn (pos least) (pos most)) WithoutMinus t parsed.values no_groups
      (each k d lt).2 read_so accepted

  number_found : (t : List ℕ) → one_text (found_of m) (get_or (args_of c) k d).id.now ≡ Some t → (n : ℕ) × (u32_of t ≡ Some n) × (least ≤ n) × (n ≤ most)
  number_found t e =
      let text = found_text t e in
      let n = in_range least most text.0 few text.2 in
      (n.0, ap u32_of text.1 ∙ n.1, n.2, n.3)

-- ---- the numbers of workers

-- an argument with a range: the number that is found of it lies in the range
ranged : (c : Command) (m : ArgMatches) → app_of c ≡ pstops → IsParsedFrom c m → (k low high letter : ℕ) (id : Text) → k < 11 → high < 2 ^ 32
    → get_or rules k (ranged_rule low high id letter) ≡ ranged_rule low high id letter
    → (t : List ℕ) → one_of id (rows_of (found_of m)) ≡ Some t → (n : ℕ) × (u32_of t ≡ Some n) × (low ≤ n) × (n ≤ high)
ranged c m is p k low high letter id under few at t found =
    let all : map rule_of (args_of c) ≡ rules = ap (λ a. a.top.rules) is ∙ pstops_has_rules in
    let d = some_arg (args_of c) all in
    let many : length (args_of c) ≡ 11 = sym (length-map (args_of c) rule_of) ∙ ap length all in
    let lt : k < length (args_of c) = omega (arith, under, many) in
    let rule : rule_of (get_or (args_of c) k d) ≡ ranged_rule low high id letter
    = rule_at (args_of c) k d (ranged_rule low high id letter) lt ∙ ap (λ l. get_or l k (ranged_rule low high id letter)) all ∙ at in
    let same : one_text (found_of m) (get_or (args_of c) k d).id.now ≡ one_of id (rows_of (found_of m))
    = ap (λ r. one_text (found_of m) r.id) rule ∙ one_text-rows (found_of m) id in
    number_found c m is p k d lt low high few (ap (λ r. r.parser) rule) t (same ∙ found)

counted : (c : Command) (m : ArgMatches) → app_of c ≡ pstops → IsParsedFrom c m → (k letter : ℕ) (id : Text) → k < 11
    → get_or rules k (counted_rule id letter) ≡ counted_rule id letter
    → (1 ≤ count_named (one_of id (rows_of (found_of m)))) × (count_named (one_of id (rows_of (found_of m))) ≤ 16)
counted c m is p k letter id under at = go (one_of id (rows_of (found_of m))) refl
  where
    go : (o : Option (List ℕ)) → one_of id (rows_of (found_of m)) ≡ o → (1 ≤ count_named o) × (count_named o ≤ 16)
    go None e = (omega arith, omega arith)
    go (Some t) e =
        let n = ranged c m is p k 1 16 letter id under (omega arith) at t e in
        let is_n : count_named (Some t) ≡ n.0 = ap (λ o. unwrap_or o 2) n.1 in
        (omega (arith, is_n, n.2), omega (arith, is_n, n.3))

pub workers_in_range : (c : Command) (m : ArgMatches) → app_of c ≡ pstops → IsParsedFrom c m → AreWorkers (workers_found (rows_of (found_of m)))
workers_in_range c m is p =
    let preparers = counted c m is p 8 letter_j (codes "preparers") (omega arith) refl in
    let imposers = counted c m is p 9 letter_k (codes "imposers") (omega arith) refl in
    record { a_preparer = preparers.0; few_preparers = preparers.1; an_imposer = imposers.0; few_imposers = imposers.1 }

-- ---- the number of sides

pub sides_in_range : (c : Command) (m : ArgMatches) → app_of c ≡ pstops → IsParsedFrom c m → AreInRange (sides_found (rows_of (found_of m)))
sides_in_range c m is p = go (one_of (codes "sides") (rows_of (found_of m))) refl
  where
    go : (o : Option (List ℕ)) → one_of (codes "sides") (rows_of (found_of m)) ≡ o → AreInRange (number_named o)
    go None e = tt
    go (Some t) e =
        let n = ranged c m is p 10 4 1_000_000 letter_s (codes "sides") (omega arith) (omega arith) refl t e in
        subst AreInRange (sym n.1) (n.2, n.3)
