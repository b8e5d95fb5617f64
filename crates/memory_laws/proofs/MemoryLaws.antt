-- Changes of the two memories agree.
use Rattle.std.proofs.Common.{◌≡◌, ℕ, zero, suc, ◌+◌, ◌<◌, ◌≤◌, ◌⊎◌, Bool, true, false, if◌then◌else◌, List, [], ◌∷◌, length, Option, Some}
use Rattle.std.proofs.Common.{None, refl, sym, ap, ap₂, ◌∙◌, subst, arith, inl, inr, ⊎_elim, get_or-set_same, get_or-set_other, length-set}
use Rattle.std.specs.Prelude.{find, option_map, ◌==◌}
use Rattle.std.proofs.lemmas.Bool.{cases_eq}
use Rattle.isa_model.specs.Word.{wrapped}
use Rattle.image_model.specs.Image.{Segment}
use Rattle.flat_mem.specs.Memory.{byte_of, may_write, set_byte, set_bytes}
use Rattle.asm_mem.specs.declared.cell.Cell.{Cell}
use Rattle.asm_mem.specs.declared.cell.Cell.TheVariants.{Nothing}
use Rattle.asm_mem.specs.Blocks.{Live, has, cell, update, set_cell, set_cells}
use Rattle.machine_model.specs.Worlds.{World, home}
use Rattle.machine_model.specs.Fits.{Data}
use Rattle.machine_model.specs.Relation.{Both, CellMeans, CellsAgree, LiveAt, Framed, Laid, Same, MemoryAgrees}
use Rattle.value_laws.proofs.Both.{both_map}
use Rattle.memory_laws.proofs.Keep.{Keeps, same_homes, cell_keep}
use Rattle.memory_laws.proofs.SegmentLaws.{same_write, flags_set, full_set, byte_same, byte_other}
use Rattle.memory_laws.proofs.BlockLaws.{Mild, set_cell_mild, update_then, top_update, find_same, home_update, framed_update, laid_update}
use Rattle.memory_laws.proofs.BlockLaws.{before, Before, Changed, Kept}

pub set_cells_mild : (cs : List Cell) (o : ℕ) → Mild (λ k. set_cells k o cs)
set_cells_mild [] o = record { number = λ k. refl; writable = λ k. refl; size = λ k. refl }
set_cells_mild (c ∷ cs) o =
    let m = set_cells_mild cs (o + 1) in
    record {
      number = λ k. m.number (set_cell k o c);
      writable = λ k. m.writable (set_cell k o c);
      size = λ k. m.size (set_cell k o c) ∙ length-set k.cells o c;
    }

pub one_block : {w : World} {live : List Live} {b a e : ℕ} {j k : Live} → LiveAt w live b a k → LiveAt w live b e j → (j ≡ k) × (e ≡ a)
one_block l m = let p = l.block in let q = m.block in let r = l.home_is in let s = m.home_is in (cc, cc)

pub update_id : (b : ℕ) (ks : List Live) → update b (λ j. j) ks ≡ ks
update_id b [] = refl
update_id b (j ∷ js) = at (update_id b js) (j.number == b)
  where
    at : update b (λ j. j) js ≡ js → (t : Bool) → (if t then j ∷ js else j ∷ update b (λ j. j) js) ≡ j ∷ js
    at r true = refl
    at r false = ap (λ z. j ∷ z) r

module _ (w : World) (next : ℕ) where
  pub same_set : (mem : List Segment) (a x : ℕ) → Data w a → Same w mem → Same w (set_byte mem a x)
  same_set mem a x d s = record {
    flags = λ e. flags_set a x mem e ∙ s.flags e;
    bytes = λ e h. byte_other a x mem e (λ q. h (subst (Data w) q d)) ∙ s.bytes e h;
    full = full_set a x mem s.full;
  }

  module _ (live : List Live) (mem : List Segment) (b a o : ℕ) (k : Live) (c : Cell) (l : LiveAt w live b a k)
      (g : MemoryAgrees w live next mem) where
    live1 : List Live
    live1 = update b (λ j. set_cell j o c) live

    keep : Keeps w live next live1 next
    unfolding live1
    keep = same_homes w live live1 next (home_update b (λ j. set_cell j o c) (set_cell_mild o c) w live)

    -- the cells after a change, where the memories agree at the cell and everywhere else
    cells_after : (n : List Segment) → CellMeans w live next c (byte_of n (a + o))
        → ((d e p : ℕ) (j : Live) → LiveAt w live d e j → p < length j.cells → (d ≡ b → p ≡ o → ⊥)
        → byte_of n (e + p) ≡ byte_of mem (e + p))
        → CellsAgree w live1 next n
    unfolding live1 keep
    cells_after n here others = record {
      at = λ d e p j lj hp.
          at d e p j hp (before b (λ j. set_cell j o c) (set_cell_mild o c) w live d e j lj);
    }
      where
        kept_cell : (d e p : ℕ) (j : Live) → LiveAt w live d e j → p < length j.cells → (d ≡ b → p ≡ o → ⊥)
            → CellMeans w live1 next (cell j p) (byte_of n (e + p))
        kept_cell d e p j lj hp ne = rw (others d e p j lj hp ne) (cell_keep w live next live1 next keep _ _ (g.cells.at d e p j lj hp))

        at : (d e p : ℕ) (j : Live) → p < length j.cells → Before b (λ j. set_cell j o c) (set_cell_mild o c) w live d e j
            → CellMeans w live1 next (cell j p) (byte_of n (e + p))
        at d e p j hp (Kept ne lj) = kept_cell d e p j lj hp (λ q _. ne q)
        at d e p j hp (Changed i q r li) = by_place (cases_eq p o)
          where
            li' : LiveAt w live b e i
            li' = subst (λ z. LiveAt w live z e i) q li

            same : (i ≡ k) × (e ≡ a)
            same = one_block l li'

            sized : length j.cells ≡ length i.cells
            sized = ap (λ z. length z.cells) r ∙ length-set i.cells o c

            by_place : (p ≡ o) ⊎ (p ≡ o → ⊥) → CellMeans w live1 next (cell j p) (byte_of n (e + p))
            by_place (inl z) =
                let s0 = sized in
                let c1 : cell j p ≡ c = ap (λ y. cell y p) r ∙ ap (λ y. cell (set_cell i o c) y) z
                ∙ get_or-set_same i.cells o c Nothing (omega arith) in
                let b1 : byte_of n (e + p) ≡ byte_of n (a + o) = ap₂ (λ x y. byte_of n (x + y)) same.1 z in
                rw (c1, b1) (cell_keep w live next live1 next keep c _ here)
            by_place (inr z) =
                let c1 : cell j p ≡ cell i p = ap (λ y. cell y p) r ∙ get_or-set_other i.cells o p c Nothing z in
                let q0 = sized in
                rw c1 (kept_cell d e p i li (omega arith) (λ _ y. z y))

    pub cell_law : (x : ℕ) → o < length k.cells → k.writable ≡ true → CellMeans w live next c x
        → MemoryAgrees w (update b (λ j. set_cell j o c) live) next (set_byte mem (a + o) x)
    unfolding live1
    cell_law x inside wr m =
        let f = λ (j : Live). set_cell j o c in
        let may : may_write mem (a + o) ≡ true = same_write w mem g.same (a + o) ∙ g.laid.open_at b a o k l inside wr in
        let hit = byte_same (a + o) x mem g.same.full may in
        record {
          laid = laid_update b f (set_cell_mild o c) w live next g.laid;
          frame = framed_update b f (set_cell_mild o c) w live g.frame;
          cells = cells_after (set_byte mem (a + o) x) (rw hit m)
              (λ d e p j lj hp ne. byte_other (a + o) x mem (e + p) (apart d e p j lj hp ne));
          same = same_set mem (a + o) x (g.laid.data_at b a o k l inside) g.same;
        }
      where
        apart : (d e p : ℕ) (j : Live) → LiveAt w live d e j → p < length j.cells → (d ≡ b → p ≡ o → ⊥) → a + o ≡ e + p → ⊥
        apart d e p j lj hp ne q =
            ⊎_elim
            (λ z. let s = one_block l (subst (λ y. LiveAt w live y e j) z lj) in let s1 = s.1 in ne z (omega arith))
            (λ n. g.laid.apart d b e a p o j k lj l n hp inside (sym q))
            (cases_eq d b)

    -- a cell is forgotten
    pub forget_law : c ≡ Nothing → MemoryAgrees w (update b (λ j. set_cell j o c) live) next mem
    unfolding live1
    forget_law n =
        let f = λ (j : Live). set_cell j o c in
        record {
          laid = laid_update b f (set_cell_mild o c) w live next g.laid;
          frame = framed_update b f (set_cell_mild o c) w live g.frame;
          cells = cells_after mem (rw n tt) (λ d e p j lj hp ne. refl);
          same = g.same;
        }

  -- the block after a change
  pub lives_on : (live : List Live) (b a : ℕ) (k : Live) (f : Live → Live) → Mild f → LiveAt w live b a k
      → LiveAt w (update b f live) b a (f k)
  lives_on live b a k f m l = record {
    home_is = home_update b f m w live b ∙ l.home_is;
    block = find_same b f m live
        ∙ ap (λ o. option_map f o) l.block;
  }

  -- several cells, one after another
  pub cells_law : (cs : List Cell) (xs : List ℕ) (live : List Live) (mem : List Segment) (b a o : ℕ) (k : Live) → LiveAt w live b a k
      → o + length cs ≤ length k.cells → k.writable ≡ true → Both (CellMeans w live next) cs xs → MemoryAgrees w live next mem
      → MemoryAgrees w (update b (λ j. set_cells j o cs) live) next (set_bytes mem (a + o) xs)
  cells_law [] [] live mem b a o k l h wr m g = subst (λ z. MemoryAgrees w z next mem) (sym (update_id b live)) g
  cells_law [] (x ∷ xs) live mem b a o k l h wr m g = absurd m
  cells_law (c ∷ cs) [] live mem b a o k l h wr m g = absurd m
  cells_law (c ∷ cs) (x ∷ xs) live mem b a o k l h wr m g =
      let f = λ (j : Live). set_cell j o c in
      let g1 = cell_law live mem b a o k c l g x (omega arith) wr m.0 in
      let kp = same_homes w live (update b f live) next (home_update b f (set_cell_mild o c) w live) in
      let hi = g.laid.high b a k l in
      let e : a + (o + 1) ≡ wrapped (a + o + 1) = omega arith in
      let s = length-set k.cells o c in
      let l1 = lives_on live b a k f (set_cell_mild o c) l in
      let r = cells_law cs xs (update b f live) (set_byte mem (a + o) x) b a (o + 1) (f k) l1 (omega arith) wr
      (both_map (CellMeans w live next) (CellMeans w (update b f live) next) (cell_keep w live next _ next kp) cs xs m.1) g1 in
      let u = update_then b f (λ j. set_cells j (o + 1) cs) (λ j. refl) live in
      subst (λ z. MemoryAgrees w z next (set_bytes (set_byte mem (a + o) x) (wrapped (a + o + 1)) xs)) (sym u)
      (subst (λ z. MemoryAgrees w (update b (λ j. set_cells j (o + 1) cs) (update b f live)) next
      (set_bytes (set_byte mem (a + o) x) z xs)) e r)
