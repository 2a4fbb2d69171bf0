-- Whole texts: what is read is a text of the grammar, and each text of the grammar is read.
use Rattle.std.proofs.Common.{inl, inr, arith, ◌≡◌, ◌≢◌, ℕ, suc, List, [], ◌∷◌, ◌++◌, Bool, true, false, Option, Some, None, refl, sym, ap, subst, ◌∙◌, length}
use Rattle.std.specs.Prelude.{if◌then◌else◌}
use Rattle.std.specs.List.{AllPass}
use Rattle.std.specs.Char.{is_ascii_digit}
use Rattle.std.proofs.lemmas.List.{append-nil, length-append}
use Rattle.rules.specs.Numbers.{number_of}
use Rattle.rules.specs.Specification.{WrittenItem, WrittenSpec, IsJoined, IsItem, IsBareItem, AreModifiers, AreGroups, IsSpec}
use Rattle.lengths.specs.Reading.{digits, past_digits, is_empty}
use Rattle.lengths.proofs.Digits.{digits_whole, digits_pass, digits-append, past_digits-append}
use Rattle.lengths.proofs.Numbers.{some_same, not_empty, ends_digits}
use Rattle.pagespec.specs.Reading.{◌>>=◌, byte_at, modifier_at, modifiers_at, is_minus_first, past_minus, item_with, item_from, item_at, bare_at, if_all_read, joined_at, group_at, groups_at, or_bare, all_groups_at, tree_of, past_modulo, tree_from, spec_at}
use Rattle.pagespec.specs.Groups.{IsGroup}
use Rattle.pagespec.proofs.Measures.{bind_some, byte_found}
use Rattle.pagespec.proofs.Modifiers.{Stood, modifiers_found, modifiers_read, modifiers_end, few_modifiers}
use Rattle.pagespec.proofs.Joined.{joined_found, joined_read, few_parts}
use Rattle.pagespec.proofs.Items.{Closed, minus_whole, item_found, item_read, minus_taken, modifiers_unsigned}

-- the text continues neither an item nor a group
abbrev pub GroupClosed : List ℕ → Type 0
GroupClosed rest = Closed rest × (byte_at 43 rest ≡ None)

pub plus_closed : (t : List ℕ) → Closed (43 ∷ t)
unfolding modifier_at
plus_closed t = record { ends = (refl, refl); none = refl }

pub comma_closed : (t : List ℕ) → GroupClosed (44 ∷ t)
unfolding modifier_at
comma_closed t = (record { ends = (refl, refl); none = refl }, refl)

nil_closed : GroupClosed []
unfolding modifier_at
nil_closed = (record { ends = tt; none = refl }, refl)

colon_closed : (t : List ℕ) → GroupClosed (58 ∷ t)
unfolding modifier_at
colon_closed t = (record { ends = (refl, refl); none = refl }, refl)

pub group_found : (t : List ℕ) (x : List WrittenItem × List ℕ) → group_at t ≡ Some x → Stood IsGroup t x
group_found t x e = joined_found 43 IsItem item_at item_found (suc (length t)) t x e

pub group_read : (text rest : List ℕ) (g : List WrittenItem) → IsGroup text g → GroupClosed rest → group_at (text ++ rest) ≡ Some (g, rest)
group_read text rest g is closed =
    joined_read 43 IsItem Closed item_at item_read plus_closed (suc (length (text ++ rest))) g text rest is closed.0 closed.1
    (omega (arith, few_parts 43 IsItem g text is, length-append text rest))

groups_found : (t : List ℕ) (x : List (List WrittenItem) × List ℕ) → groups_at t ≡ Some x → Stood (IsJoined 44 IsGroup) t x
groups_found t x e = joined_found 44 IsGroup group_at group_found (suc (length t)) t x e

groups_read : (text rest : List ℕ) (gs : List (List WrittenItem)) → IsJoined 44 IsGroup text gs → GroupClosed rest → byte_at 44 rest ≡ None → groups_at (text ++ rest) ≡ Some (gs, rest)
groups_read text rest gs is closed none =
    joined_read 44 IsGroup GroupClosed group_at group_read comma_closed (suc (length (text ++ rest))) gs text rest is closed none
    (omega (arith, few_parts 44 IsGroup gs text is, length-append text rest))

whole_found : {X : Type 0} (x : X × List ℕ) (y : X) → if_all_read x ≡ Some y → (x.1 ≡ []) × (x.0 ≡ y)
whole_found (x, []) y e = (refl, some_same _ _ e)
whole_found (x, b ∷ t) y e = absurd (cc (e))

bare_of : (b : Bool) (o : Option WrittenItem) (i : WrittenItem) → (if b then None else o) ≡ Some i → (b ≡ false) × (o ≡ Some i)
bare_of true o i e = absurd (cc (e))
bare_of false o i e = (refl, e)

pub bare_found : (t : List ℕ) (i : WrittenItem) → bare_at t ≡ Some i → IsBareItem t i
unfolding bare_at
bare_found t i e =
    let u = past_minus t in
    let (some, read) = bare_of (is_empty t) _ i e in
    let (front, m_is, are) = modifiers_found (length u) u in
    let (rest, same) = whole_found (item_with (is_minus_first t) 0 (modifiers_at (length u) u)) i read in
    let u_is : u ≡ front = m_is ∙ (ap (λ x. front ++ x) rest ∙ append-nil front) in
    subst (IsBareItem t) same (u, minus_whole t, refl, not_empty t some, subst (λ x. AreModifiers x (modifiers_at (length u) u).0) (sym u_is) are)

pub bare_taken : {A : Type 0} (t : List ℕ) (o : Option A) → t ≢ [] → (if is_empty t then None else o) ≡ o
bare_taken [] o n = absurd (n refl)
bare_taken (b ∷ t) o n = refl

bare_read : (t : List ℕ) (i : WrittenItem) → IsBareItem t i → bare_at t ≡ Some i
unfolding bare_at
bare_read t i (ms, e, page, some, are) =
    let minus = minus_taken i.from_end ms (modifiers_unsigned i.modifiers ms are) in
    let is_m : is_minus_first t ≡ i.from_end = ap is_minus_first e ∙ minus.0 in
    let past : past_minus t ≡ ms = ap past_minus e ∙ minus.1 in
    let read : modifiers_at (length ms) ms ≡ (i.modifiers, []) = ap (modifiers_at (length ms)) (sym (append-nil ms)) ∙ modifiers_read (length ms) i.modifiers ms [] are nil_closed.0.ends nil_closed.0.none (few_modifiers i.modifiers ms are) in
    bare_taken t _ some
    ∙ (ap (λ x. if_all_read (item_with x 0 (modifiers_at (length (past_minus t)) (past_minus t)))) is_m
    ∙ (ap (λ x. if_all_read (item_with i.from_end 0 (modifiers_at (length x) x))) past
    ∙ (ap (λ x. if_all_read (item_with i.from_end 0 x)) read ∙ ap (λ n. Some (record i { page = n })) (sym page))))

-- an item without its number isn't one with a number
bare_is_none : (t : List ℕ) (i : WrittenItem) → IsBareItem t i → item_at t ≡ None
unfolding item_at
bare_is_none t i (ms, e, page, some, are) =
    let minus = minus_taken i.from_end ms (modifiers_unsigned i.modifiers ms are) in
    let past : past_minus t ≡ ms = ap past_minus e ∙ minus.1 in
    let ends = ends_digits (ms ++ []) (modifiers_end i.modifiers ms [] are tt) in
    let no : digits ms ≡ [] = ap digits (sym (append-nil ms)) ∙ ends.0 in
    ap (λ x. item_from (is_minus_first t) x) past ∙ ap (λ x. if is_empty x then None else Some (item_with (is_minus_first t) (number_of x) (modifiers_at (length (past_digits ms)) (past_digits ms)))) no

no_groups : (t : List ℕ) → item_at t ≡ None → groups_at t ≡ None
unfolding joined_at
no_groups t e = rw e refl

or_found : (t : List ℕ) (o : Option (List (List WrittenItem))) (gs : List (List WrittenItem)) → (groups_at t >>= if_all_read) ≡ o → or_bare t o ≡ Some gs → AreGroups t gs
or_found t None gs g e =
    let (i, found, same) = bind_some (bare_at t) _ gs e in
    inr (i, sym (some_same _ _ same), bare_found t i found)
or_found t (Some hs) gs g e =
    let (x, found, w) = bind_some (groups_at t) if_all_read hs g in
    let (rest, same) = whole_found x hs w in
    let (front, t_is, joined) = groups_found t x found in
    let whole_text : t ≡ front = t_is ∙ (ap (λ y. front ++ y) rest ∙ append-nil front) in
    inl (subst (λ y. IsJoined 44 IsGroup y gs) (sym whole_text) (subst (λ y. IsJoined 44 IsGroup front y) (same ∙ some_same _ _ e) joined))

pub all_groups_found : (t : List ℕ) (gs : List (List WrittenItem)) → all_groups_at t ≡ Some gs → AreGroups t gs
unfolding all_groups_at
all_groups_found t gs e = or_found t (groups_at t >>= if_all_read) gs refl e

pub all_groups_read : (t : List ℕ) (gs : List (List WrittenItem)) → AreGroups t gs → all_groups_at t ≡ Some gs
unfolding all_groups_at
all_groups_read t gs (inl joined) =
    ap (λ x. or_bare t (x >>= if_all_read)) (ap groups_at (sym (append-nil t)) ∙ groups_read t [] gs joined nil_closed refl)
all_groups_read t gs (inr (i, same, bare)) =
    ap (λ x. or_bare t (x >>= if_all_read)) (no_groups t (bare_is_none t i bare))
    ∙ (ap (λ o. o >>= λ j. Some ((j ∷ []) ∷ [])) (bare_read t i bare) ∙ ap (λ x. Some x) (sym same))

-- the digits before a colon
abbrev pub HasModulo : List ℕ → List ℕ → Type 0
HasModulo t rest = (t ≡ digits t ++ 58 ∷ rest) × (digits t ≢ [])

modulo_of : (b : Bool) (o : Option (List ℕ)) (r : List ℕ) → (if b then None else o) ≡ Some r → (b ≡ false) × (o ≡ Some r)
modulo_of true o r e = absurd (cc (e))
modulo_of false o r e = (refl, e)

pub modulo_found : (t rest : List ℕ) → past_modulo t ≡ Some rest → HasModulo t rest
modulo_found t rest e =
    let (some, colon) = modulo_of (is_empty (digits t)) _ rest e in
    (sym (digits_whole t) ∙ ap (λ x. digits t ++ x) (byte_found 58 (past_digits t) rest colon), not_empty (digits t) some)

tree_found : (t : List ℕ) (o : Option (List ℕ)) (tree : WrittenSpec) → past_modulo t ≡ o → tree_from t o ≡ Some tree → IsSpec t tree
tree_found t None tree m e =
    let (gs, found, same) = bind_some (all_groups_at t) (tree_of 1) tree e in
    subst (IsSpec t) (some_same _ _ same) (inl (refl, all_groups_found t gs found))
tree_found t (Some rest) tree m e =
    let (gs, found, same) = bind_some (all_groups_at rest) _ tree e in
    let has = modulo_found t rest m in
    subst (IsSpec t) (some_same _ _ same) (inr (digits t, rest, has.0, (digits_pass t, has.1, refl), all_groups_found rest gs found))

-- what is read is the tree of the text
pub spec_found : (t : List ℕ) (tree : WrittenSpec) → spec_at t ≡ Some tree → IsSpec t tree
unfolding spec_at
spec_found t tree e = tree_found t (past_modulo t) tree refl e

-- digits and a colon begin no groups
colon_item : (t rest : List ℕ) → HasModulo t rest → item_at t ≡ Some (record { from_end = false; page = number_of (digits t); modifiers = [] }, 58 ∷ rest)
colon_item t rest (e, some) =
    ap item_at e ∙ item_read (digits t) (58 ∷ rest) (record { from_end = false; page = number_of (digits t); modifiers = [] })
    (digits t, [], sym (append-nil (digits t)), (digits_pass t, some, refl), refl) (colon_closed rest).0

colon_groups : (t rest : List ℕ) (i : WrittenItem) → item_at t ≡ Some (i, 58 ∷ rest) → (groups_at t >>= if_all_read) ≡ None
unfolding joined_at
colon_groups t rest i e = rw e refl

no_colon : (t rest : List ℕ) (gs : List (List WrittenItem)) → HasModulo t rest → AreGroups t gs → ⊥
no_colon t rest gs has (inl joined) =
    let e : groups_at t ≡ Some (gs, []) = ap groups_at (sym (append-nil t)) ∙ groups_read t [] gs joined nil_closed refl in
    let f : (groups_at t >>= if_all_read) ≡ None = colon_groups t rest _ (colon_item t rest has) in
    let g : (groups_at t >>= if_all_read) ≡ Some gs = ap (λ x. x >>= if_all_read) e in
    cc
no_colon t rest gs has (inr (i, same, bare)) =
    let e = bare_is_none t i bare in
    let f = colon_item t rest has in
    cc

tree_read : (t : List ℕ) (o : Option (List ℕ)) (gs : List (List WrittenItem)) → past_modulo t ≡ o → AreGroups t gs → tree_from t o ≡ Some (record { modulo = 1; groups = gs })
tree_read t None gs m are = ap (λ x. x >>= tree_of 1) (all_groups_read t gs are)
tree_read t (Some rest) gs m are = absurd (no_colon t rest gs (modulo_found t rest m) are)

pub colon_here : (ds rest : List ℕ) → AllPass is_ascii_digit ds → (digits (ds ++ 58 ∷ rest) ≡ ds) × (past_digits (ds ++ 58 ∷ rest) ≡ 58 ∷ rest)
colon_here ds rest h = (digits-append ds (58 ∷ rest) h ∙ append-nil ds, past_digits-append ds (58 ∷ rest) h)

-- each text of the grammar is read, with its tree
pub spec_read : (t : List ℕ) (tree : WrittenSpec) → IsSpec t tree → spec_at t ≡ Some tree
unfolding spec_at
spec_read t tree (inl (one, are)) = tree_read t (past_modulo t) tree.groups refl are ∙ ap (λ m. Some (record tree { modulo = m })) (sym one)
spec_read t tree (inr (ds, rest, e, (pass, some, is), are)) =
    let here = colon_here ds rest pass in
    let d : digits t ≡ ds = ap digits e ∙ here.0 in
    let p : past_digits t ≡ 58 ∷ rest = ap past_digits e ∙ here.1 in
    let m : past_modulo t ≡ Some rest = bare_taken (digits t) _ (λ n. some (sym d ∙ n)) ∙ ap (byte_at 58) p in
    ap (tree_from t) m ∙ (ap (λ x. x >>= tree_of (number_of (digits t))) (all_groups_read rest tree.groups are) ∙ ap (λ n. Some (record tree { modulo = n })) (ap number_of d ∙ sym is))

-- a text that isn't read is not in the grammar
pub no_tree : (t : List ℕ) → spec_at t ≡ None → (tree : WrittenSpec) → IsSpec t tree → ⊥
no_tree t e tree is = let f = spec_read t tree is in cc
