-- A search in rows that are in the order of scopes and names.
use Rattle.std.proofs.Common.{◌≡◌, ℕ, zero, suc, ◌+◌, ◌<◌, Bool, true, List, [], ◌∷◌, length, map, get_or, cond, refl, sym, ◌∙◌, ap, arith}
use Rattle.std.proofs.Common.{Some, None}
use Rattle.std.specs.Prelude.{slice_get, option_map}
use Rattle.std.specs.Map.{lookup, keys_of}
use Rattle.std.specs.List.{AllWithin}
use Rattle.std.specs.List.Sorted.{IsSortedBy, IsNonDecreasingBy}
use Rattle.std.specs.declared.cmp.Ordering.{Ordering}
use Rattle.std.specs.declared.cmp.Ordering.TheVariants.{Less, Equal, Greater}
use Rattle.std.specs.Ordering.{nat_cmp, is_eq, is_lt, eq_by_cmp, ordering_then, ordering_reverse, ordering_index}
use Rattle.std.specs.BTreeMap.{is_at}
use Rattle.std.proofs.lemmas.Cmp.{eq_by_cmp_equiv}
use Rattle.std.proofs.lemmas.List.{get_or-map, length-map}
use Rattle.std.proofs.lemmas.List.Sorted.{searchable_from_sorted}
use Rattle.std.proofs.lemmas.Map.Entries.{lookup_from_place, lookup_at_gap}
use Rattle.std.proofs.lemmas.Map.Keys.{IsDistinct-from_sorted, Less-from_sorted}
use Rattle.std.proofs.lemmas.Option.{slice_get-map, slice_get-get_or, get_or_from_slice_get}
use Rattle.asm_program.specs.declared.numbers.Row.{Row}
use Rattle.asm_program.specs.declared.codes.CodedName.{CodedName}
use Rattle.asm_program.specs.Coded.{by_coded}
use Rattle.asm_program.specs.Scopes.{is_same}
use Rattle.asm_program.specs.Numbered.{by_name, row_seen, AreInOrder}
use Rattle.asm_program.proofs.CodedNames.{coded_is}
use Rattle.asm_program.proofs.ScopedNames.{by_name_total, same_is, same_name}

abbrev pub row_name : Row → ℕ × List ℕ
row_name r = (r.scope, r.name.name.now)

-- how a row stands to a name
abbrev pub row_order : ℕ × List ℕ → Row → Ordering
row_order q r = by_name (row_name r) q

-- by the codes that are kept
abbrev pub row_kept : CodedName → ℕ → Row → Ordering
row_kept n s r = ordering_then (by_coded r.name n) (nat_cmp r.scope s)

pub row_order_is : (n : CodedName) (s : ℕ) (r : Row) → row_kept n s r ≡ row_order (s, n.name.now) r
row_order_is n s r = λ k. ordering_then (coded_is r.name n k) (nat_cmp r.scope s)

lookup_agree : (p q : ℕ × List ℕ → Bool) (es : List ((ℕ × List ℕ) × ℕ)) → ((x : ℕ × List ℕ) → p x ≡ q x) → lookup p es ≡ lookup q es
lookup_agree p q [] h = refl
lookup_agree p q (e ∷ es) h = λ k. cond (h e.0 k) (Some e.1) (lookup_agree p q es h k)

eq_is : (o : Ordering) → o ≡ Equal → is_eq o ≡ true
eq_is o h = ap is_eq h

pub row_hit : (rows : List Row) (q : ℕ × List ℕ) (i : ℕ) (d : Row) → AreInOrder (map row_seen rows) → i < length rows
    → row_order q (get_or rows i d) ≡ Equal → lookup (is_same q) (map row_seen rows) ≡ Some (get_or rows i d).number
row_hit rows q i d sorted lt equal =
    let r : Row = get_or rows i d in
    let es : List ((ℕ × List ℕ) × ℕ) = map row_seen rows in
    let at : slice_get es i ≡ Some (row_seen r) = slice_get-map row_seen rows i ∙ ap (option_map row_seen) (slice_get-get_or rows i d lt) in
    let same : row_name r ≡ q = same_name (row_name r) q (sym (same_is (row_name r) q) ∙ ap is_eq equal) in
    lookup_agree (is_same q) (eq_by_cmp by_name (row_name r)) es (λ x. sym (same_is q x) ∙ ap (λ p. is_eq (by_name p x)) (sym same))
    ∙ lookup_from_place (eq_by_cmp_equiv by_name_total) es i (row_name r) r.number (IsDistinct-from_sorted by_name (keys_of es) sorted) at

row_at : (rows : List Row) (j : ℕ) (e : (ℕ × List ℕ) × ℕ) → slice_get (map row_seen rows) j ≡ Some e
    → (r : Row) × (slice_get rows j ≡ Some r) × (row_seen r ≡ e)
row_at [] j e h = absurd (cc)
row_at (r ∷ rows) zero e h = (r, refl, (let s : row_seen r ≡ e = cc in s))
row_at (r ∷ rows) (suc j) e h = row_at rows j e h

short : {X : Type 0} (xs : List X) (j : ℕ) (x : X) → slice_get xs j ≡ Some x → j < length xs
short [] j x h = absurd (cc)
short (y ∷ ys) zero x h = omega arith
short (y ∷ ys) (suc j) x h = omega (arith, short ys j x h)

-- by_name the other way round
turned : (q : ℕ × List ℕ) (r : Row) (o : Ordering) → row_order q r ≡ o → by_name q (row_name r) ≡ ordering_reverse o
turned q r o h = by_name_total.antisymm q (row_name r) ∙ ap ordering_reverse h

pub row_miss : (rows : List Row) (q : ℕ × List ℕ) (i : ℕ) → AreInOrder (map row_seen rows)
    → AllWithin (λ r. row_order q r ≡ Less) rows 0 i → AllWithin (λ r. row_order q r ≡ Greater) rows i (length rows)
    → lookup (is_same q) (map row_seen rows) ≡ None
row_miss rows q i sorted below above =
    let es : List ((ℕ × List ℕ) × ℕ) = map row_seen rows in
    lookup_agree (is_same q) (is_at (by_name q)) es (λ x. sym (same_is q x))
    ∙ lookup_at_gap by_name_total q es i sorted
    (λ j e lt at.
    let t = row_at rows j e at in let r : Row = t.0 in
    let read : get_or rows j r ≡ r = get_or_from_slice_get rows j r r t.1 in
    ap (λ k. by_name q k.0) (sym t.2) ∙ turned q r Less (ap (row_order q) (sym read) ∙ below j r (omega arith) lt))
    (λ e at.
    let t = row_at rows i e at in let r : Row = t.0 in
    let read : get_or rows i r ≡ r = get_or_from_slice_get rows i r r t.1 in
    ap (λ k. by_name q k.0) (sym t.2) ∙ turned q r Greater (ap (row_order q) (sym read) ∙ above i r (omega arith) (short rows i r t.1)))

rows_sorted : (rows : List Row) → AreInOrder (map row_seen rows) → IsSortedBy (λ a b. is_lt (by_name (row_name a) (row_name b))) rows
rows_sorted rows sorted k d low lt =
    let es : List ((ℕ × List ℕ) × ℕ) = map row_seen rows in
    let ks : List (ℕ × List ℕ) = keys_of es in
    let a : Row = get_or rows k d in let b : Row = get_or rows (k + 1) d in
    let long : length ks ≡ length rows = length-map es (λ e. e.0) ∙ length-map rows row_seen in
    let long_es : length es ≡ length rows = length-map rows row_seen in
    let name : (ℕ × List ℕ) × ℕ → ℕ × List ℕ = λ e. e.0 in
    let first : get_or ks k (row_name d) ≡ row_name a =
    get_or-map name es k (row_seen d) (row_name d) (omega (arith, long_es))
    ∙ ap name (get_or-map row_seen rows k d (row_seen d) (omega arith)) in
    let second : get_or ks (k + 1) (row_name d) ≡ row_name b =
    get_or-map name es (k + 1) (row_seen d) (row_name d) (omega (arith, long_es))
    ∙ ap name (get_or-map row_seen rows (k + 1) d (row_seen d) (omega arith)) in
    let less : by_name (get_or ks k (row_name d)) (get_or ks (k + 1) (row_name d)) ≡ Less =
    Less-from_sorted by_name ks k (k + 1) (row_name d) sorted (omega arith) (omega (arith, long)) in
    let up : by_name (row_name a) (row_name b) ≡ Less = (λ i. by_name (sym first i) (sym second i)) ∙ less in
    ap is_lt (by_name_total.antisymm (row_name b) (row_name a) ∙ ap ordering_reverse up)

pub rows_rise : (rows : List Row) (q : ℕ × List ℕ) → AreInOrder (map row_seen rows)
    → IsNonDecreasingBy (λ r. ordering_index (row_order q r)) rows
rows_rise rows q sorted = searchable_from_sorted by_name_total row_name rows q (rows_sorted rows sorted)
