-- A frame is made and given back.
use Rattle.std.proofs.Common.{◌≡◌, ℕ, zero, suc, ◌+◌, ◌-◌, ◌<◌, ◌≤◌, ◌⊎◌, Bool, true, false, List, [], ◌∷◌, length, Option, Some, None}
use Rattle.std.proofs.Common.{refl, sym, ap, ap₂, ◌∙◌, subst, arith, inl, inr, ⊎_elim, if◌then◌else◌}
use Rattle.std.specs.Prelude.{◌==◌, find, is_some, slice_index_or}
use Rattle.std.specs.Option.{option_map_or}
use Rattle.image_model.specs.Loaded.{is_writable}
use Rattle.std.proofs.lemmas.Bool.{eqb-true, eqb-false, eq-eqb, ne_eqb, lt-ltb, le-ltb, cases_eq, cases_lt}
use Rattle.image_model.specs.Image.{Segment}
use Rattle.flat_mem.specs.Memory.{byte_of, is_mapped, may_write}
use Rattle.asm_mem.specs.declared.cell.Cell.{Cell}
use Rattle.asm_mem.specs.declared.cell.Cell.TheVariants.{Nothing}
use Rattle.asm_mem.specs.Blocks.{Live, has, cell}
use Rattle.machine_model.specs.Worlds.{World, home, base, depth, variables_in}
use Rattle.machine_model.specs.Fits.{Fits, Data, Stacked, InStack}
use Rattle.machine_model.specs.Relation.{CellMeans, CellsAgree, LiveAt, Framed, Laid, Same, Above, Under, MemoryAgrees}
use Rattle.memory_laws.proofs.Keep.{Keeps, cell_keep}
use Rattle.memory_laws.specs.Laws.{Blank}
use Rattle.memory_laws.proofs.BlockLaws.{frames_step}

-- a block that is found is the newest, or one address_after it
pub data Looked (w : World) (k : Live) (ks : List Live) (b a : ℕ) (j : Live) : Type 0 where
  Newest : k.number ≡ b → a ≡ base w (k ∷ ks) → j ≡ k → Looked w k ks b a j
  Older : (k.number ≡ b → ⊥) → LiveAt w ks b a j → Looked w k ks b a j

module _ (w : World) (k : Live) (ks : List Live) where
  pub not_newest : (b : ℕ) → (k.number ≡ b → ⊥) → home w (k ∷ ks) b ≡ home w ks b
  not_newest b h = rw (ne_eqb k.number b h) refl

  pub find_older : (b : ℕ) → (k.number ≡ b → ⊥) → find (has b) (k ∷ ks) ≡ find (has b) ks
  find_older b h = rw (ne_eqb k.number b h) refl

  pub newest : LiveAt w (k ∷ ks) k.number (base w (k ∷ ks)) k
  newest = record { home_is = rw (eq-eqb k.number k.number refl) refl; block = rw (eq-eqb k.number k.number refl) refl }

  pub look : (b a : ℕ) (j : Live) → LiveAt w (k ∷ ks) b a j → Looked w k ks b a j
  look b a j l = at (cases_eq k.number b)
    where
      at : (k.number ≡ b) ⊎ (k.number ≡ b → ⊥) → Looked w k ks b a j
      at (inl e) =
          let n = newest in
          let h : home w (k ∷ ks) b ≡ Some (base w (k ∷ ks)) = subst (λ z. home w (k ∷ ks) z ≡ Some (base w (k ∷ ks))) e n.home_is in
          let f : find (has b) (k ∷ ks) ≡ Some k = subst (λ z. find (has z) (k ∷ ks) ≡ Some k) e n.block in
          let h2 = l.home_is in let f2 = l.block in
          let p : a ≡ base w (k ∷ ks) = cc in
          let q : j ≡ k = cc in
          Newest e p q
      at (inr n) = Older n (record { home_is = sym (not_newest b n) ∙ l.home_is; block = sym (find_older b n) ∙ l.block })

  pub was : (b a : ℕ) (j : Live) → (k.number ≡ b → ⊥) → LiveAt w ks b a j → LiveAt w (k ∷ ks) b a j
  was b a j n l = record { home_is = not_newest b n ∙ l.home_is; block = find_older b n ∙ l.block }

  pub frame_total : variables_in w < k.number → depth w (k ∷ ks) ≡ length k.cells + depth w ks
  frame_total h = ap (λ n. n + 16) (frames_step (variables_in w) k ks) ∙ rw (lt-ltb (variables_in w) k.number h) (omega arith)

  pub frame_base : variables_in w ≤ k.number → base w (k ∷ ks) ≡ w.layout.stack.hi - depth w (k ∷ ks)
  frame_base h = rw (le-ltb k.number (variables_in w) h) refl

open_mapped : (o : Option ℕ) → option_map_or is_writable o false ≡ true → is_some o ≡ true
open_mapped None h = cc
open_mapped (Some s) h = refl

-- the next number is above those that are live
pub under_next : (w : World) (next : ℕ) (live : List Live) → ((b : ℕ) → next ≤ b → home w live b ≡ None) → Under next live
under_next w next [] h = tt
under_next w next (k ∷ ks) h = ⊎_elim (λ l. l) (λ l. absurd (none (h k.number l))) (cases_lt k.number next)
  where
    none : home w (k ∷ ks) k.number ≡ None → ⊥
    none e = let n = newest w k ks in let q = n.home_is in cc

-- a block on a frame or on the root is a frame
pub over_frame : (w : World) (n : ℕ) (live : List Live) → Framed w live → Under n live → variables_in w < n
over_frame w n [] f u = absurd f
over_frame w n (k ∷ ks) f u = omega arith

pub blank_at : (cs : List Cell) → Blank cs → (o : ℕ) → slice_index_or cs o Nothing ≡ Nothing
blank_at [] h o = refl
blank_at (c ∷ cs) h zero = h.0
blank_at (c ∷ cs) h (suc o) = blank_at cs h.1 o

module _ (w : World) (ok : Fits w) (live : List Live) (next : ℕ) (l : Laid w live next) (k : Live) (number : k.number ≡ next) where
  pub push_keeps : Keeps w live next (k ∷ live) (suc next)
  push_keeps = record { grows = omega arith; homes = λ b h. inl (not_newest w k live b (λ e. omega arith)) }

  module _ (fits : length k.cells + depth w live + w.layout.stack.lo ≤ w.layout.stack.hi) where
    whole : depth w (k ∷ live) ≡ length k.cells + depth w live
    whole = frame_total w k live (let q = l.given in omega arith)

    start : base w (k ∷ live) ≡ w.layout.stack.hi - (length k.cells + depth w live)
    start = frame_base w k live (let q = l.given in omega arith) ∙ ap (λ n. w.layout.stack.hi - n) whole

    in_stack : (a o : ℕ) → a ≡ base w (k ∷ live) → o < length k.cells → InStack w (a + o)
    in_stack a o e h = let s = start in (omega arith, omega arith)

    above_apart : (a d o p : ℕ) → a ≡ base w (k ∷ live) → o < length k.cells
        → ((w.layout.stack.hi ≤ d + p + depth w live) ⊎ (InStack w (d + p) → ⊥)) → a + o ≡ d + p → ⊥
    above_apart a d o p e h (inl c) q = let s = start in omega arith
    above_apart a d o p e h (inr c) q = c (subst (InStack w) q (in_stack a o e h))

    size_is : {i j : Live} (o : ℕ) → i ≡ j → o < length i.cells → o < length j.cells
    size_is {i = i} o e h = subst (λ (z : Live). o < length z.cells) e h

    apart_case : (b c a d o p : ℕ) (i j : Live) → Looked w k live b a i → Looked w k live c d j → (b ≡ c → ⊥) → o < length i.cells
        → p < length j.cells → a + o ≡ d + p → ⊥
    apart_case b c a d o p i j (Newest n e z) (Newest m f y) ne s1 s2 q = ne (sym n ∙ m)
    apart_case b c a d o p i j (Newest n e z) (Older m f) ne s1 s2 q = above_apart a d o p e (size_is o z s1) (l.above.at c d p j f s2) q
    apart_case b c a d o p i j (Older n e) (Newest m f y) ne s1 s2 q =
        above_apart d a p o f (size_is p y s2) (l.above.at b a o i e s1) (sym q)
    apart_case b c a d o p i j (Older n e) (Older m f) ne s1 s2 q = l.apart b c a d o p i j e f ne s1 s2 q

    low_case : (b a : ℕ) → home w (k ∷ live) b ≡ Some a → 1 ≤ a
    low_case b a h = at (cases_eq k.number b)
      where
        at : (k.number ≡ b) ⊎ (k.number ≡ b → ⊥) → 1 ≤ a
        at (inl e) =
            let n = newest w k live in
            let h1 : home w (k ∷ live) b ≡ Some (base w (k ∷ live)) =
            subst (λ z. home w (k ∷ live) z ≡ Some (base w (k ∷ live))) e n.home_is in
            let q : a ≡ base w (k ∷ live) = cc in
            let s = start in let r = ok.stack.range.some in omega arith
        at (inr n) = l.low b a (sym (not_newest w k live b n) ∙ h)

    high_case : (b a : ℕ) (j : Live) → Looked w k live b a j → a + length j.cells ≤ 0xfffffff0
    high_case b a j (Newest n e z) = let s = start in let r : w.layout.stack.hi ≤ 0xfffffff0 = ok.stack.range.most in
        let y = ap (λ (x : Live). length x.cells) z in omega arith
    high_case b a j (Older n e) = l.high b a j e

    data_case : (b a o : ℕ) (j : Live) → Looked w k live b a j → o < length j.cells → Data w (a + o)
    data_case b a o j (Newest n e z) s = Stacked (in_stack a o e (size_is o z s))
    data_case b a o j (Older n e) s = l.data_at b a o j e s

    mapped_case : (b a o : ℕ) (j : Live) → Looked w k live b a j → o < length j.cells → is_mapped w.memory (a + o) ≡ true
    mapped_case b a o j (Newest n e z) s = open_mapped _ (ok.stack_open (a + o) (in_stack a o e (size_is o z s)))
    mapped_case b a o j (Older n e) s = l.mapped b a o j e s

    open_case : (b a o : ℕ) (j : Live) → Looked w k live b a j → o < length j.cells → j.writable ≡ true → may_write w.memory (a + o) ≡ true
    open_case b a o j (Newest n e z) s t = ok.stack_open (a + o) (in_stack a o e (size_is o z s))
    open_case b a o j (Older n e) s t = l.open_at b a o j e s t

    above_case : (b a o : ℕ) (j : Live) → Looked w k live b a j → o < length j.cells
        → (w.layout.stack.hi ≤ a + o + depth w (k ∷ live)) ⊎ (InStack w (a + o) → ⊥)
    above_case b a o j (Newest n e z) s = let h = start in let t = whole in inl (omega arith)
    above_case b a o j (Older n e) s = let t = whole in ⊎_elim (λ h. inl (omega arith)) (λ h. inr h) (l.above.at b a o j e s)

    pub push_laid : Laid w (k ∷ live) (suc next)
    push_laid =
        let given = l.given in
        record {
          fits = let t = whole in omega arith;
          given = omega arith;
          young = λ b h. not_newest w k live b (λ e. omega arith) ∙ l.young b (omega arith);
          ordered = (rw number (l.young next (omega arith)), rw number (under_next w next live l.young), l.above, l.ordered);
          variables_live = λ v h. not_newest w k live v (λ e. omega arith) ∙ l.variables_live v h;
          apart = λ b c a d o p i j h1 h2. apart_case b c a d o p i j (look w k live b a i h1) (look w k live c d j h2);
          low = low_case;
          high = λ b a j h. high_case b a j (look w k live b a j h);
          data_at = λ b a o j h. data_case b a o j (look w k live b a j h);
          mapped = λ b a o j h. mapped_case b a o j (look w k live b a j h);
          open_at = λ b a o j h. open_case b a o j (look w k live b a j h);
          above = record { at = λ b a o j h. above_case b a o j (look w k live b a j h) };
        }

    module _ (mem : List Segment) (cells : CellsAgree w live next mem) (same : Same w mem) where
      cell_case : Blank k.cells → (b a o : ℕ) (j : Live) → Looked w k live b a j → o < length j.cells
          → CellMeans w (k ∷ live) (suc next) (cell j o) (byte_of mem (a + o))
      cell_case blank b a o j (Newest n e z) s =
          let h : cell j o ≡ Nothing = ap (λ (x : Live). cell x o) z ∙ blank_at k.cells blank o in
          rw h tt
      cell_case blank b a o j (Older n e) s = cell_keep w live next (k ∷ live) (suc next) push_keeps _ _ (cells.at b a o j e s)

      pub push_law : Blank k.cells → MemoryAgrees w (k ∷ live) (suc next) mem
      push_law blank =
          let given = l.given in
          record {
            laid = push_laid;
            frame = omega arith;
            cells = record { at = λ b a o j h. cell_case blank b a o j (look w k live b a j h) };
            same = same;
          }

-- the newest block goes, and a frame is below
module _ (w : World) (k : Live) (live : List Live) (next : ℕ) (mem : List Segment) (g : MemoryAgrees w (k ∷ live) next mem)
    (frame : Framed w live) where
  -- what is found below was found before
  below : (b a : ℕ) → home w live b ≡ Some a → k.number ≡ b → ⊥
  below b a h e = let q : home w live b ≡ None = subst (λ z. home w live z ≡ None) e g.laid.ordered.0 in cc

  lived : (b a : ℕ) (j : Live) → LiveAt w live b a j → LiveAt w (k ∷ live) b a j
  lived b a j h = was w k live b a j (below b a h.home_is) h

  pub pop_keeps : Keeps w (k ∷ live) next live next
  pop_keeps = record { grows = omega arith; homes = λ b h. at b (cases_eq k.number b) }
    where
      at : (b : ℕ) → (k.number ≡ b) ⊎ (k.number ≡ b → ⊥) → (home w live b ≡ home w (k ∷ live) b) ⊎ (home w live b ≡ None)
      at b (inl e) = inr (subst (λ z. home w live z ≡ None) e g.laid.ordered.0)
      at b (inr n) = inl (sym (not_newest w k live b n))

  pub pop_law : MemoryAgrees w live next mem
  pop_law =
      let f0 : variables_in w < k.number = over_frame w k.number live frame g.laid.ordered.1 in
      let f1 = g.laid.fits in
      let t = frame_total w k live f0 in
      record {
        laid = record {
          fits = omega arith;
          given = g.laid.given;
          young = λ b h. young b (g.laid.young b h);
          ordered = g.laid.ordered.3;
          variables_live = λ v h. sym (not_newest w k live v (λ e. omega arith)) ∙ g.laid.variables_live v h;
          apart = λ b c a d o p i j h1 h2. g.laid.apart b c a d o p i j (lived b a i h1) (lived c d j h2);
          low = λ b a h. g.laid.low b a (not_newest w k live b (below b a h) ∙ h);
          high = λ b a j h. g.laid.high b a j (lived b a j h);
          data_at = λ b a o j h. g.laid.data_at b a o j (lived b a j h);
          mapped = λ b a o j h. g.laid.mapped b a o j (lived b a j h);
          open_at = λ b a o j h. g.laid.open_at b a o j (lived b a j h);
          above = g.laid.ordered.2;
        };
        frame = frame;
        cells = record { at = λ b a o j h s. cell_keep w (k ∷ live) next live next pop_keeps _ _ (g.cells.at b a o j (lived b a j h) s) };
        same = g.same;
      }
    where
      young : (b : ℕ) → home w (k ∷ live) b ≡ None → home w live b ≡ None
      young b h = at (cases_eq k.number b)
        where
          at : (k.number ≡ b) ⊎ (k.number ≡ b → ⊥) → home w live b ≡ None
          at (inl e) = subst (λ z. home w live z ≡ None) e g.laid.ordered.0
          at (inr n) = sym (not_newest w k live b n) ∙ h
