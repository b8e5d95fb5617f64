-- What a change of one block does to each look-up among the live blocks.
use Rattle.std.proofs.Common.{◌≡◌, ℕ, zero, suc, ◌+◌, ◌-◌, ◌<◌, ◌≤◌, ◌⊎◌, inl, inr, Bool, true, false, nat_lt, List, [], ◌∷◌, length}
use Rattle.std.proofs.Common.{Option, Some, None, refl, sym, ap, ap₂, ◌∙◌, subst, arith, if◌then◌else◌, length-set}
use Rattle.std.specs.Prelude.{◌==◌, find, option_map}
use Rattle.std.proofs.lemmas.Bool.{eqb-true, cases_eq}
use Rattle.asm_mem.specs.declared.cell.Cell.{Cell}
use Rattle.asm_mem.specs.Blocks.{Live, has, top, update, set_cell, set_cells}
use Rattle.asm_machine.specs.Stacks.{frame_cells}
use Rattle.machine_model.specs.Worlds.{World, home, base, depth, variables_in}
use Rattle.machine_model.specs.Relation.{LiveAt, Above, Under, Ordered, Framed, Laid}

-- number, leave to write and size stay
pub record Mild (f : Live → Live) : Type 0 where
  pub number : (k : Live) → (f k).number ≡ k.number
  pub writable : (k : Live) → (f k).writable ≡ k.writable
  pub size : (k : Live) → length (f k).cells ≡ length k.cells

pub set_cell_mild : (o : ℕ) (c : Cell) → Mild (λ k. set_cell k o c)
set_cell_mild o c = record { number = λ k. refl; writable = λ k. refl; size = λ k. length-set k.cells o c }

-- two changes, one after the other
pub update_then : (b : ℕ) (f g : Live → Live) → ((k : Live) → (f k).number ≡ k.number) → (live : List Live)
    → update b (λ k. g (f k)) live ≡ update b g (update b f live)
update_then b f g m [] = refl
update_then b f g m (k ∷ ks) = at (update_then b f g m ks) (k.number == b) refl
  where
    at : update b (λ k. g (f k)) ks ≡ update b g (update b f ks) → (t : Bool) → (k.number == b) ≡ t
        → (if t then g (f k) ∷ ks else k ∷ update b (λ k. g (f k)) ks) ≡ update b g (if t then f k ∷ ks else k ∷ update b f ks)
    at r true e = rw (m k, e) refl
    at r false e = rw e (ap (λ l. k ∷ l) r)

-- the cells of the frames, by the newest block
pub frames_step : (v : ℕ) (k : Live) (ks : List Live)
    → frame_cells v (k ∷ ks) ≡ (if nat_lt v k.number then length k.cells + frame_cells v ks else frame_cells v ks)
frames_step v k ks = at (nat_lt v k.number) refl
  where
    at : (t : Bool) → nat_lt v k.number ≡ t → frame_cells v (k ∷ ks) ≡ (if t then length k.cells + frame_cells v ks else frame_cells v ks)
    at true e = rw e refl
    at false e = rw e refl

module _ (b : ℕ) (f : Live → Live) (m : Mild f) where
  abbrev branch : Bool → Live → List Live → List Live → List Live
  branch t k ks rest = if t then f k ∷ ks else k ∷ rest

  pub top_update : (live : List Live) → top (update b f live) ≡ top live
  top_update [] = refl
  top_update (k ∷ ks) = at (k.number == b)
    where
      at : (t : Bool) → top (branch t k ks (update b f ks)) ≡ top (k ∷ ks)
      at true = m.number k
      at false = refl

  pub find_other : (live : List Live) (d : ℕ) → (d ≡ b → ⊥) → find (has d) (update b f live) ≡ find (has d) live
  find_other [] d n = refl
  find_other (k ∷ ks) d n = at (find_other ks d n) (k.number == b) refl
    where
      at : find (has d) (update b f ks) ≡ find (has d) ks → (t : Bool) → (k.number == b) ≡ t
          → find (has d) (branch t k ks (update b f ks)) ≡ find (has d) (k ∷ ks)
      at r true e = ap (λ z. if z == d then Some (f k) else find (has d) ks) (m.number k) ∙ here (k.number == d) refl
        where
          here : (t : Bool) → (k.number == d) ≡ t → (if t then Some (f k) else find (has d) ks) ≡ (if t then Some k else find (has d) ks)
          here true g = absurd (n (sym (eqb-true k.number d g) ∙ eqb-true k.number b e))
          here false g = refl
      at r false e = ap (λ z. if k.number == d then Some k else z) r

  pub find_same : (live : List Live) → find (has b) (update b f live) ≡ option_map f (find (has b) live)
  find_same [] = refl
  find_same (k ∷ ks) = at (find_same ks) (k.number == b) refl
    where
      at : find (has b) (update b f ks) ≡ option_map f (find (has b) ks) → (t : Bool) → (k.number == b) ≡ t
          → find (has b) (branch t k ks (update b f ks)) ≡ option_map f (if t then Some k else find (has b) ks)
      at r true e = rw (m.number k, e) refl
      at r false e = rw e r

  module _ (w : World) where
    cells_head : (k : Live) (ks : List Live) → frame_cells (variables_in w) (f k ∷ ks) ≡ frame_cells (variables_in w) (k ∷ ks)
    cells_head k ks =
        frames_step (variables_in w) (f k) ks
        ∙ ap₂ (λ z n. if nat_lt (variables_in w) z then n + frame_cells (variables_in w) ks else frame_cells (variables_in w) ks)
        (m.number k) (m.size k)
        ∙ sym (frames_step (variables_in w) k ks)

    cells_tail : (k : Live) (ks js : List Live) → frame_cells (variables_in w) js ≡ frame_cells (variables_in w) ks
        → frame_cells (variables_in w) (k ∷ js) ≡ frame_cells (variables_in w) (k ∷ ks)
    cells_tail k ks js e =
        frames_step (variables_in w) k js ∙ ap (λ n. if nat_lt (variables_in w) k.number then length k.cells + n else n) e
        ∙ sym (frames_step (variables_in w) k ks)

    cells_update : (live : List Live) → frame_cells (variables_in w) (update b f live) ≡ frame_cells (variables_in w) live
    cells_update [] = refl
    cells_update (k ∷ ks) = at (cells_update ks) (k.number == b)
      where
        at : frame_cells (variables_in w) (update b f ks) ≡ frame_cells (variables_in w) ks → (t : Bool)
            → frame_cells (variables_in w) (branch t k ks (update b f ks)) ≡ frame_cells (variables_in w) (k ∷ ks)
        at r true = cells_head k ks
        at r false = cells_tail k ks (update b f ks) r

    pub depth_update : (live : List Live) → depth w (update b f live) ≡ depth w live
    depth_update live = ap (λ n. n + 16) (cells_update live)

    base_head : (k : Live) (ks : List Live) → base w (f k ∷ ks) ≡ base w (k ∷ ks)
    base_head k ks =
        ap₂ (λ z n. if nat_lt z (variables_in w) then w.variable_at z else w.layout.stack.hi - (n + 16)) (m.number k) (cells_head k ks)

    base_tail : (k : Live) (ks : List Live) → base w (k ∷ update b f ks) ≡ base w (k ∷ ks)
    base_tail k ks =
        ap (λ n. if nat_lt k.number (variables_in w) then w.variable_at k.number else w.layout.stack.hi - (n + 16))
        (cells_tail k ks (update b f ks) (cells_update ks))

    pub home_update : (live : List Live) (d : ℕ) → home w (update b f live) d ≡ home w live d
    home_update [] d = refl
    home_update (k ∷ ks) d = at (home_update ks d) (k.number == b)
      where
        at : home w (update b f ks) d ≡ home w ks d → (t : Bool) → home w (branch t k ks (update b f ks)) d ≡ home w (k ∷ ks) d
        at r true = ap₂ (λ z n. if z == d then Some n else home w ks d) (m.number k) (base_head k ks)
        at r false = ap₂ (λ n z. if k.number == d then Some n else z) (base_tail k ks) r

    pub framed_update : (live : List Live) → Framed w live → Framed w (update b f live)
    framed_update [] h = h
    framed_update (k ∷ ks) h = at (k.number == b)
      where
        at : (t : Bool) → Framed w (branch t k ks (update b f ks))
        at true = subst (λ z. variables_in w ≤ z) (sym (m.number k)) h
        at false = h

    -- a block that is found was there before
    pub data Before (live : List Live) (d a : ℕ) (k : Live) : Type 0 where
      Changed : (j : Live) → d ≡ b → k ≡ f j → LiveAt w live d a j → Before live d a k
      Kept : (d ≡ b → ⊥) → LiveAt w live d a k → Before live d a k

    pub before : (live : List Live) (d a : ℕ) (k : Live) → LiveAt w (update b f live) d a k → Before live d a k
    before live d a k l = at (cases_eq d b)
      where
        h : home w live d ≡ Some a
        h = sym (home_update live d) ∙ l.home_is

        mapped : (o : Option Live) → option_map f o ≡ Some k → (j : Live) × (o ≡ Some j) × (k ≡ f j)
        mapped None e = cc
        mapped (Some j) e = (j, refl, cc)

        at : (d ≡ b) ⊎ (d ≡ b → ⊥) → Before live d a k
        at (inl e) =
            let q : find (has b) (update b f live) ≡ Some k = subst (λ z. find (has z) (update b f live) ≡ Some k) e l.block in
            let p = mapped (find (has b) live) (sym (find_same live) ∙ q) in
            Changed p.0 e p.2 (record { home_is = h; block = subst (λ z. find (has z) live ≡ Some p.0) (sym e) p.1 })
        at (inr n) = Kept n (record { home_is = h; block = sym (find_other live d n) ∙ l.block })

    pub record Was (live : List Live) (d a : ℕ) (k : Live) : Type 0 where
      pub old : Live
      pub lives : LiveAt w live d a old
      pub size : length k.cells ≡ length old.cells
      pub writable : k.writable ≡ old.writable

    pub was : (live : List Live) (d a : ℕ) (k : Live) → LiveAt w (update b f live) d a k → Was live d a k
    was live d a k l = at (before live d a k l)
      where
        at : Before live d a k → Was live d a k
        at (Changed j e q h) = record {
          old = j;
          lives = h;
          size = ap (λ z. length z.cells) q ∙ m.size j;
          writable = ap (λ z. z.writable) q ∙ m.writable j;
        }
        at (Kept n h) = record { old = k; lives = h; size = refl; writable = refl }

    pub above_update : (live : List Live) → Above w live → Above w (update b f live)
    above_update live h = record {
      at = λ d a o k l s. let q = was live d a k l in let z = q.size in
          rw (depth_update live) (h.at d a o q.old q.lives (omega arith));
    }

    under_update : (n : ℕ) (live : List Live) → Under n live → Under n (update b f live)
    under_update n [] h = tt
    under_update n (k ∷ ks) h = at (k.number == b)
      where
        at : (t : Bool) → Under n (branch t k ks (update b f ks))
        at true = subst (λ z. z < n) (sym (m.number k)) h
        at false = h

    pub ordered_update : (live : List Live) → Ordered w live → Ordered w (update b f live)
    ordered_update [] h = tt
    ordered_update (k ∷ ks) h = at (ordered_update ks h.3) (k.number == b)
      where
        at : Ordered w (update b f ks) → (t : Bool) → Ordered w (branch t k ks (update b f ks))
        at r true = (subst (λ z. home w ks z ≡ None) (sym (m.number k)) h.0, subst (λ z. Under z ks) (sym (m.number k)) h.1, h.2, h.3)
        at r false = (home_update ks k.number ∙ h.0, under_update k.number ks h.1, above_update ks h.2, r)

    pub laid_update : (live : List Live) (next : ℕ) → Laid w live next → Laid w (update b f live) next
    laid_update live next l = record {
      fits = rw (depth_update live) l.fits;
      given = l.given;
      young = λ d h. home_update live d ∙ l.young d h;
      ordered = ordered_update live l.ordered;
      variables_live = λ v h. home_update live v ∙ l.variables_live v h;
      apart = λ c d x y o p k j h1 h2 n s1 s2. let q1 = was live c x k h1 in let q2 = was live d y j h2 in let z1 = q1.size in
          let z2 = q2.size in l.apart c d x y o p q1.old q2.old q1.lives q2.lives n (omega arith) (omega arith);
      low = λ d a h. l.low d a (sym (home_update live d) ∙ h);
      high = λ d a k h. let q = was live d a k h in let z = q.size in let y = l.high d a q.old q.lives in omega arith;
      data_at = λ d a o k h s. let q = was live d a k h in let z = q.size in l.data_at d a o q.old q.lives (omega arith);
      mapped = λ d a o k h s. let q = was live d a k h in let z = q.size in l.mapped d a o q.old q.lives (omega arith);
      open_at = λ d a o k h s t. let q = was live d a k h in let z = q.size in
          l.open_at d a o q.old q.lives (omega arith) (sym q.writable ∙ t);
      above = above_update live l.above;
    }
