-- The declarations of one kind among others: their numbers, and what each of them gives.
use Rattle.std.proofs.Common.{◌≡◌, ℕ, zero, suc, ◌+◌, ◌<◌, ◌≤◌, Bool, true, false, List, [], ◌∷◌, ◌++◌, length, map, take, Option, Some}
use Rattle.std.proofs.Common.{None, refl, sym, ap, ◌∙◌, subst, arith, if◌then◌else◌}
use Rattle.std.specs.Prelude.{slice_get, filter, flat_map}
use Rattle.std.specs.List.{enumerate_from}
use Rattle.link_model.specs.Program.{Declaration, Item}

module _ {X : Type 0} (is_kind : Item → Bool) (pick : Declaration → List X) where
  -- a declaration of the kind gives one element, and another gives none
  pub data Picks (d : Declaration) : Type 0 where
    Picked : (x : X) → is_kind d.item ≡ true → pick d ≡ x ∷ [] → Picks d
    Passed : is_kind d.item ≡ false → pick d ≡ [] → Picks d

  -- the numbers of those of the kind, where the first has the number n
  abbrev pub numbers : ℕ → List Declaration → List ℕ
  numbers n ds = map (λ (k : ℕ × Declaration). k.0) (filter (λ (k : ℕ × Declaration). is_kind k.1.item) (enumerate_from n ds))

  abbrev head : Bool → ℕ → List ℕ → List ℕ
  head t n rest = if t then n ∷ rest else rest

  numbers_step : (n : ℕ) (d : Declaration) (ds : List Declaration) → numbers n (d ∷ ds) ≡ head (is_kind d.item) n (numbers (n + 1) ds)
  numbers_step n d ds = at (is_kind d.item) refl
    where
      at : (t : Bool) → is_kind d.item ≡ t → numbers n (d ∷ ds) ≡ head t n (numbers (n + 1) ds)
      at true e = rw e refl
      at false e = rw e refl

  -- an element, by the declaration that gives it
  pub record Member (ds : List Declaration) (n m : ℕ) (x : X) : Type 0 where
    pub place : ℕ
    pub of : Declaration
    pub is : slice_get ds place ≡ Some of
    pub number : slice_get (numbers n ds) m ≡ Some (n + place)
    pub picked : pick of ≡ x ∷ []
    pub kind : is_kind of.item ≡ true

  module _ (each : (d : Declaration) → Picks d) where
    pub member : (ds : List Declaration) (n m : ℕ) (x : X) → slice_get (flat_map pick ds) m ≡ Some x → Member ds n m x
    member [] n m x h = cc
    member (d ∷ ds) n m x h = by (each d) m h (λ i q. member ds (n + 1) i x q)
      where
        later : (m i : ℕ) → Member ds (n + 1) i x → slice_get (numbers n (d ∷ ds)) m ≡ slice_get (numbers (n + 1) ds) i
            → Member (d ∷ ds) n m x
        later m i r e =
            let z : n + 1 + r.place ≡ n + suc r.place = omega arith in
            record { place = suc r.place; of = r.of; is = r.is; number = e ∙ r.number ∙ ap Some z; picked = r.picked; kind = r.kind }

        by : Picks d → (m : ℕ) → slice_get (flat_map pick (d ∷ ds)) m ≡ Some x
            → ((i : ℕ) → slice_get (flat_map pick ds) i ≡ Some x → Member ds (n + 1) i x) → Member (d ∷ ds) n m x
        by (Picked y t e) zero h go =
            let q : slice_get (y ∷ flat_map pick ds) 0 ≡ Some x = ap (λ l. slice_get (l ++ flat_map pick ds) 0) (sym e) ∙ h in
            let s : y ≡ x = cc in
            let z : n ≡ n + 0 = omega arith in
            record {
              place = 0;
              of = d;
              is = refl;
              number = ap (λ l. slice_get l 0) (numbers_step n d ds ∙ ap (λ t. head t n (numbers (n + 1) ds)) t) ∙ ap Some z;
              picked = e ∙ ap (λ z. z ∷ []) s;
              kind = t;
            }
        by (Picked y t e) (suc m) h go =
            let q : slice_get (flat_map pick ds) m ≡ Some x = ap (λ l. slice_get (l ++ flat_map pick ds) (suc m)) (sym e) ∙ h in
            later (suc m) m (go m q) (ap (λ l. slice_get l (suc m)) (numbers_step n d ds ∙ ap (λ t. head t n (numbers (n + 1) ds)) t))
        by (Passed t e) m h go =
            let q : slice_get (flat_map pick ds) m ≡ Some x = ap (λ l. slice_get (l ++ flat_map pick ds) m) (sym e) ∙ h in
            later m m (go m q) (ap (λ l. slice_get l m) (numbers_step n d ds ∙ ap (λ t. head t n (numbers (n + 1) ds)) t))

    -- how many of the kind come before
    abbrev pub before : List Declaration → ℕ → ℕ
    before ds j = length (filter (λ (d : Declaration). is_kind d.item) (take j ds))

    picks_one : (d : Declaration) → Picks d → is_kind d.item ≡ true → length (pick d) ≡ 1
    picks_one d (Picked x t e) h = ap length e
    picks_one d (Passed t e) h = cc

    picks_none : (d : Declaration) → Picks d → is_kind d.item ≡ false → length (pick d) ≡ 0
    picks_none d (Picked x t e) h = cc
    picks_none d (Passed t e) h = ap length e

    append_long : (xs ys : List X) → length (xs ++ ys) ≡ length xs + length ys
    append_long [] ys = omega arith
    append_long (x ∷ xs) ys = let q = append_long xs ys in omega arith

    -- one of the kind has this number, and there are more of the kind than come before it
    pub counted : (ds : List Declaration) (n j : ℕ) (d : Declaration) → slice_get ds j ≡ Some d → is_kind d.item ≡ true
        → (slice_get (numbers n ds) (before ds j) ≡ Some (n + j)) × (before ds j < length (flat_map pick ds))
    counted [] n j d h k = cc
    counted (e ∷ es) n zero d h k =
        let q : e ≡ d = cc in
        let t : is_kind e.item ≡ true = ap (λ (z : Declaration). is_kind z.item) q ∙ k in
        let z : n ≡ n + 0 = omega arith in
        let one = picks_one e (each e) t in
        let long = append_long (pick e) (flat_map pick es) in
        (ap (λ l. slice_get l 0) (numbers_step n e es ∙ ap (λ t. head t n (numbers (n + 1) es)) t) ∙ ap Some z, omega arith)
    counted (e ∷ es) n (suc j) d h k = at (is_kind e.item) refl (counted es (n + 1) j d h k)
      where
        at : (t : Bool) → is_kind e.item ≡ t
            → (slice_get (numbers (n + 1) es) (before es j) ≡ Some (n + 1 + j)) × (before es j < length (flat_map pick es))
            → (slice_get (numbers n (e ∷ es)) (before (e ∷ es) (suc j)) ≡ Some (n + suc j))
            × (before (e ∷ es) (suc j) < length (flat_map pick (e ∷ es)))
        at true t r =
            let z : n + 1 + j ≡ n + suc j = omega arith in
            let more : before (e ∷ es) (suc j) ≡ suc (before es j) = rw t refl in
            let one = picks_one e (each e) t in
            let long = append_long (pick e) (flat_map pick es) in
            let low = r.1 in (
              ap (slice_get (numbers n (e ∷ es))) more ∙ ap (λ l. slice_get l (suc (before es j))) (numbers_step n e es
                  ∙ ap (λ t. head t n (numbers (n + 1) es)) t) ∙ r.0 ∙ ap Some z,
              omega arith,
            )
        at false t r =
            let z : n + 1 + j ≡ n + suc j = omega arith in
            let more : before (e ∷ es) (suc j) ≡ before es j = rw t refl in
            let none = picks_none e (each e) t in
            let long = append_long (pick e) (flat_map pick es) in
            let low = r.1 in (
              ap (slice_get (numbers n (e ∷ es))) more ∙ ap (λ l. slice_get l (before es j)) (numbers_step n e es
                  ∙ ap (λ t. head t n (numbers (n + 1) es)) t) ∙ r.0 ∙ ap Some z,
              omega arith,
            )

  -- numbers rise, so each stands once
  low : (ds : List Declaration) (n a k : ℕ) → slice_get (numbers n ds) a ≡ Some k → n ≤ k
  low [] n a k h = cc
  low (d ∷ ds) n a k h = at (is_kind d.item) (ap (λ l. slice_get l a) (sym (numbers_step n d ds)) ∙ h) (λ i q. low ds (n + 1) i k q)
    where
      at : (t : Bool) → slice_get (head t n (numbers (n + 1) ds)) a ≡ Some k
          → ((i : ℕ) → slice_get (numbers (n + 1) ds) i ≡ Some k → n + 1 ≤ k) → n ≤ k
      at true q go = first a q
        where
          first : (a : ℕ) → slice_get (n ∷ numbers (n + 1) ds) a ≡ Some k → n ≤ k
          first zero q = let e : n ≡ k = cc in omega arith
          first (suc a) q = let r = go a q in omega arith
      at false q go = let r = go a q in omega arith

  pub once : (ds : List Declaration) (n a b k : ℕ) → slice_get (numbers n ds) a ≡ Some k → slice_get (numbers n ds) b ≡ Some k → a ≡ b
  once [] n a b k h g = cc
  once (d ∷ ds) n a b k h g =
      at (is_kind d.item) a b (ap (λ l. slice_get l a) (sym (numbers_step n d ds))
      ∙ h) (ap (λ l. slice_get l b) (sym (numbers_step n d ds)) ∙ g) (λ i j p q. once ds (n + 1) i j k p q)
    where
      at : (t : Bool) (a b : ℕ) → slice_get (head t n (numbers (n + 1) ds)) a ≡ Some k
          → slice_get (head t n (numbers (n + 1) ds)) b ≡ Some k
          → ((i j : ℕ) → slice_get (numbers (n + 1) ds) i ≡ Some k → slice_get (numbers (n + 1) ds) j ≡ Some k → i ≡ j) → a ≡ b
      at true zero zero p q go = refl
      at true zero (suc b) p q go = let e : n ≡ k = cc in let r = low ds (n + 1) b k q in absurd (omega arith)
      at true (suc a) zero p q go = let e : n ≡ k = cc in let r = low ds (n + 1) a k p in absurd (omega arith)
      at true (suc a) (suc b) p q go = ap suc (go a b p q)
      at false a b p q go = go a b p q
