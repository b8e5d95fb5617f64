-- An unsigned comparison of values stands for that of the words.
use Rattle.std.proofs.Common.{◌≡◌, ℕ, zero, suc, ◌+◌, ◌<◌, Bool, true, false, ◌&&◌, nat_lt, nat_le, List, length, Option, Some, None, refl}
use Rattle.std.proofs.Common.{sym, ap, ◌∙◌, subst, arith, ⊎_elim, if◌then◌else◌}
use Rattle.std.specs.Prelude.{◌==◌, option_map, find}
use Rattle.std.proofs.lemmas.Bool.{eqb-true, eqb-false, eq-eqb, ne_eqb, and_parts, cases_eq, leb-true, ltb-true, lt-ltb, le-ltb, cases_lt}
use Rattle.isa_model.specs.Word.{wrapped, carry_bit}
use Rattle.effect_model.specs.Meaning.{three}
use Rattle.asm_mem.specs.declared.value.Val.{Val}
use Rattle.asm_mem.specs.declared.value.Val.TheVariants.{Undef, Int, Ptr, Code, Ext, Stop, Ha}
use Rattle.asm_mem.specs.Blocks.{Live, has}
use Rattle.asm_mem.specs.Comparison.{Compared, of_words, unknown, unequal, reaches, is_valid, is_inside, is_place, compared}
use Rattle.asm_values.specs.Operands.{ordered}
use Rattle.machine_model.specs.Worlds.{World, home, place_at}
use Rattle.machine_model.specs.Fits.{Fits}
use Rattle.machine_model.specs.Relation.{Shows, Means, Laid, LiveAt}
use Rattle.value_laws.specs.Laws.{ResultsMean}
use Rattle.value_laws.proofs.Lookups.{home_of}
use Rattle.value_laws.proofs.ValueLaws.{undef_means, int_means, first_place}

module _ (w : World) (ok : Fits w) (live : List Live) (next : ℕ) (laid : Laid w live next) where
  abbrev pub Compares : Compared → ℕ → ℕ → Type 0
  Compares c x y = ResultsMean w live next (ordered c) (three (nat_lt x y) (nat_lt y x) (x == y))

  unknown_law : (x y : ℕ) → Compares unknown x y
  unknown_law x y = (undef_means w live next _, (undef_means w live next _, undef_means w live next _))

  unequal_law : (x y : ℕ) → (x ≡ y → ⊥) → Compares unequal x y
  unequal_law x y n = (undef_means w live next _, (undef_means w live next _, int_means w live next 0 _ (ap carry_bit (ne_eqb x y n))))

  -- the same order
  words_law : (a b x y : ℕ) → nat_lt x y ≡ nat_lt a b → nat_lt y x ≡ nat_lt b a → (x == y) ≡ (a == b) → Compares (of_words a b) x y
  words_law a b x y e f g =
      (int_means w live next _ _ (ap carry_bit e), (int_means w live next _ _ (ap carry_bit f), int_means w live next _ _ (ap carry_bit g)))

  same_law : (x y : ℕ) → x ≡ y → Compares (of_words 0 0) x y
  same_law x y e = words_law 0 0 x y (le-ltb x y (omega arith)) (le-ltb y x (omega arith)) (eq-eqb x y e)

  greater_law : (x y : ℕ) → y < x → Compares (of_words 1 0) x y
  greater_law x y h = words_law 1 0 x y (le-ltb x y (omega arith)) (lt-ltb y x h) (ne_eqb x y (λ e. omega arith))

  less_law : (x y : ℕ) → x < y → Compares (of_words 0 1) x y
  less_law x y h = words_law 0 1 x y (lt-ltb x y h) (le-ltb y x (omega arith)) (ne_eqb x y (λ e. omega arith))

  lt_shift : (a o p : ℕ) → nat_lt (a + o) (a + p) ≡ nat_lt o p
  lt_shift a o p =
      ⊎_elim (λ h. lt-ltb (a + o) (a + p) (omega arith) ∙ sym (lt-ltb o p h)) (λ h. le-ltb (a + o) (a + p) (omega arith)
      ∙ sym (le-ltb o p h)) (cases_lt o p)

  eq_shift : (a o p : ℕ) → (a + o == a + p) ≡ (o == p)
  eq_shift a o p =
      ⊎_elim (λ h. eq-eqb (a + o) (a + p) (omega arith) ∙ sym (eq-eqb o p h)) (λ h. ne_eqb (a + o) (a + p) (λ e. h (omega arith))
      ∙ sym (ne_eqb o p h)) (cases_eq o p)

  -- the word of a pointer into a live block
  record Word (b o x : ℕ) : Type 0 where
    at : ℕ
    block : Live
    lives : LiveAt w live b at block
    below : o < length block.cells + 1
    is : x ≡ at + o
    some : 0 < x

  live_word : (b o x : ℕ) → is_valid live b o ≡ true → Means w live next (Ptr b o) x → Word b o x
  live_word b o x h m = at (find (has b) live) refl h
    where
      at : (k : Option Live) → find (has b) live ≡ k → reaches k o ≡ true → Word b o x
      at None e l = cc
      at (Some k) e l =
          let q = leb-true o (length k.cells) l in
          let r = home_of w live b k e in
          let hi = laid.high b r.0 k r.1 in
          let low = laid.low b r.0 r.1.home_is in
          let s : x ≡ wrapped (r.0 + o) = subst (λ z. Shows (option_map (λ a. wrapped (a + o)) z) x) r.1.home_is m.shows in
          record { at = r.0; block = k; lives = r.1; below = omega arith; is = omega arith; some = omega arith }

  valid_of : (b o : ℕ) → is_inside live b o ≡ true → is_valid live b o ≡ true
  valid_of b o h = at (find (has b) live) h
    where
      at : (k : Option Live) → reaches k (o + 1) ≡ true → reaches k o ≡ true
      at None l = cc
      at (Some k) l = let q = leb-true (o + 1) (length k.cells) l in Rattle.std.proofs.lemmas.Bool.le-leb o (length k.cells) (omega arith)

  inside_of : (b o : ℕ) (k : Live) → is_inside live b o ≡ true → find (has b) live ≡ Some k → o < length k.cells
  inside_of b o k h e = let q : reaches (Some k) (o + 1) ≡ true = subst (λ z. reaches z (o + 1) ≡ true) e h in
      let l = leb-true (o + 1) (length k.cells) q in omega arith

  above_zero : (v : Val) (x : ℕ) → is_place live v ≡ true → Means w live next v x → 0 < x
  above_zero (Ptr b o) x h m = (live_word b o x h m).some
  above_zero (Code f i) x h m = let e = m.shows in let q = ok.places f i m.named.0 m.named.1 in let s = q.some in omega arith
  above_zero (Ext k o) x h m =
      let z = eqb-true o 0 h in
      let e : x ≡ wrapped (w.address k + o) = m.shows in let q = ok.below k m.named in let p = q.0 in let r = q.1 in omega arith
  above_zero Undef x h m = cc
  above_zero (Int n) x h m = cc
  above_zero Stop x h m = cc
  above_zero (Ha k o n) x h m = cc

  zero_right : (v : Val) (n x y : ℕ) → Means w live next v x → y ≡ n
      → Compares (if n == 0 && is_place live v then of_words 1 0 else unknown) x y
  zero_right v n x y m e = at (n == 0 && is_place live v) refl
    where
      at : (b : Bool) → (n == 0 && is_place live v) ≡ b → Compares (if b then of_words 1 0 else unknown) x y
      at true h = let p = and_parts (n == 0) (is_place live v) h in let z = eqb-true n 0 p.0 in let q = above_zero v x p.1 m in
          greater_law x y (omega arith)
      at false h = unknown_law x y

  zero_left : (v : Val) (n x y : ℕ) → Means w live next v y → x ≡ n
      → Compares (if n == 0 && is_place live v then of_words 0 1 else unknown) x y
  zero_left v n x y m e = at (n == 0 && is_place live v) refl
    where
      at : (b : Bool) → (n == 0 && is_place live v) ≡ b → Compares (if b then of_words 0 1 else unknown) x y
      at true h = let p = and_parts (n == 0) (is_place live v) h in let z = eqb-true n 0 p.0 in let q = above_zero v y p.1 m in
          less_law x y (omega arith)
      at false h = unknown_law x y

  pointers : (b o c p x y : ℕ) → Means w live next (Ptr b o) x → Means w live next (Ptr c p) y
      → Compares (compared live (Ptr b o) (Ptr c p)) x y
  pointers b o c p x y m k = at (b == c) refl
    where
      at : (t : Bool) → (b == c) ≡ t
          → Compares (if t then (if is_valid live b o && is_valid live b p then of_words o p else unknown) else
          (if is_inside live b o && is_inside live c p then unequal else unknown)) x y
      at true e = one (is_valid live b o && is_valid live b p) refl
        where
          one : (t : Bool) → (is_valid live b o && is_valid live b p) ≡ t → Compares (if t then of_words o p else unknown) x y
          one true h =
              let v = and_parts (is_valid live b o) (is_valid live b p) h in
              let k' : Means w live next (Ptr b p) y = subst (λ z. Means w live next (Ptr z p) y) (sym (eqb-true b c e)) k in
              let l = live_word b o x v.0 m in
              let r = live_word b p y v.1 k' in
              let same : l.at ≡ r.at = let q1 = l.lives.home_is in let q2 = r.lives.home_is in cc in
              let x1 = l.is in let y0 = r.is in
              let y1 : y ≡ l.at + p = omega arith in
              rw (x1, y1) (words_law o p (l.at + o) (l.at + p) (lt_shift l.at o p) (lt_shift l.at p o) (eq_shift l.at o p))
          one false h = unknown_law x y
      at false e = two (is_inside live b o && is_inside live c p) refl
        where
          two : (t : Bool) → (is_inside live b o && is_inside live c p) ≡ t → Compares (if t then unequal else unknown) x y
          two true h =
              let v = and_parts (is_inside live b o) (is_inside live c p) h in
              let l = live_word b o x (valid_of b o v.0) m in
              let r = live_word c p y (valid_of c p v.1) k in
              let x1 = l.is in let y1 = r.is in
              unequal_law x y (λ e1. laid.apart b c l.at r.at o p l.block r.block l.lives r.lives (eqb-false b c e)
              (inside_of b o l.block v.0 l.lives.block) (inside_of c p r.block v.1 r.lives.block) (omega arith))
          two false h = unknown_law x y

  codes : (f i g j x y : ℕ) → Means w live next (Code f i) x → Means w live next (Code g j) y
      → Compares (compared live (Code f i) (Code g j)) x y
  codes f i g j x y m k = at (i == 0 && j == 0) refl
    where
      at : (t : Bool) → (i == 0 && j == 0) ≡ t → Compares (if t then (if f == g then of_words 0 0 else unequal) else unknown) x y
      at true h = two (f == g) refl
        where
          p : (i ≡ 0) × (j ≡ 0)
          p = let q = and_parts (i == 0) (j == 0) h in (eqb-true i 0 q.0, eqb-true j 0 q.1)

          fx : x ≡ w.function_at f
          fx = m.shows ∙ ap (place_at w f) p.0 ∙ first_place w f

          gy : y ≡ w.function_at g
          gy = k.shows ∙ ap (place_at w g) p.1 ∙ first_place w g

          two : (t : Bool) → (f == g) ≡ t → Compares (if t then of_words 0 0 else unequal) x y
          two true e = same_law x y (fx ∙ ap w.function_at (eqb-true f g e) ∙ sym gy)
          two false e = unequal_law x y (λ q. eqb-false f g e (ok.functions_differ f g m.named.0 k.named.0 (sym fx ∙ q ∙ gy)))
      at false h = unknown_law x y

  externals : (f o g p x y : ℕ) → Means w live next (Ext f o) x → Means w live next (Ext g p) y
      → Compares (compared live (Ext f o) (Ext g p)) x y
  externals f o g p x y m k = at (o == 0 && p == 0 && (f == g)) refl
    where
      at : (t : Bool) → (o == 0 && p == 0 && (f == g)) ≡ t → Compares (if t then of_words 0 0 else unknown) x y
      at true h =
          let q = and_parts (o == 0 && p == 0) (f == g) h in
          let r = and_parts (o == 0) (p == 0) q.0 in
          let e1 = eqb-true o 0 r.0 in let e2 = eqb-true p 0 r.1 in
          same_law x y (m.shows ∙ ap (λ z. wrapped (w.address z + o)) (eqb-true f g q.1)
          ∙ ap (λ z. wrapped (w.address g + z)) (e1 ∙ sym e2) ∙ sym k.shows)
      at false h = unknown_law x y

  pub compare_law : (u v : Val) (x y : ℕ) → Means w live next u x → Means w live next v y → Compares (compared live u v) x y
  compare_law (Int a) (Int b) x y m k = rw (m.shows, k.shows) (words_law a b a b refl refl refl)
  compare_law (Ptr b o) (Ptr c p) x y m k = pointers b o c p x y m k
  compare_law (Code f i) (Code g j) x y m k = codes f i g j x y m k
  compare_law (Ext f o) (Ext g p) x y m k = externals f o g p x y m k
  compare_law (Int n) v x y m k = zero_left v n x y k m.shows
  compare_law u (Int n) x y m k = zero_right u n x y m k.shows
  compare_law _ _ x y m k = unknown_law x y
