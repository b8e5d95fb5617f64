-- Live blocks: what is found has an address, and what has an address is found.
use Rattle.std.proofs.Common.{◌≡◌, ℕ, Bool, true, false, List, [], ◌∷◌, Some, None, refl, sym, arith, if◌then◌else◌}
use Rattle.std.specs.Prelude.{◌==◌, nat_lt, Option, find, option_map}
use Rattle.std.proofs.lemmas.Bool.{eqb-true}
use Rattle.asm_mem.specs.Blocks.{Live, has}
use Rattle.asm_machine.specs.declared.machine.Home.TheVariants as homes
use Rattle.asm_machine.specs.Stacks as stacks
use Rattle.machine_model.specs.Worlds.{World, home, base, depth, variables_in}
use Rattle.value_laws.specs.Laws.{home_address, HomesAgree}
use Rattle.machine_model.specs.Relation.{LiveAt}

pub home_of : (w : World) (live : List Live) (b : ℕ) (k : Live) → find (has b) live ≡ Some k → (a : ℕ) × LiveAt w live b a k
home_of w live b k h = let q = go live h in (q.0, record { home_is = q.1; block = h })
  where
    go : (l : List Live) → find (has b) l ≡ Some k → (a : ℕ) × (home w l b ≡ Some a)
    go [] e = cc
    go (j ∷ js) e = at (j.number == b) refl (go js)
      where
        at : (t : Bool) → (j.number == b) ≡ t → (find (has b) js ≡ Some k → (a : ℕ) × (home w js b ≡ Some a))
            → (a : ℕ) × ((if t then Some (base w (j ∷ js)) else home w js b) ≡ Some a)
        at true q r = (base w (j ∷ js), refl)
        at false q r = let s : find (has b) js ≡ Some k = rw q at e in r s

pub block_of : (w : World) (live : List Live) (b a : ℕ) → home w live b ≡ Some a → (k : Live) × LiveAt w live b a k
block_of w live b a h = let q = go live h in (q.0, record { home_is = h; block = q.1 })
  where
    go : (l : List Live) → home w l b ≡ Some a → (k : Live) × (find (has b) l ≡ Some k)
    go [] e = cc
    go (j ∷ js) e = at (j.number == b) refl (go js)
      where
        at : (t : Bool) → (j.number == b) ≡ t → (home w js b ≡ Some a → (k : Live) × (find (has b) js ≡ Some k))
            → (k : Live) × ((if t then Some j else find (has b) js) ≡ Some k)
        at true q r = (j, refl)
        at false q r = let s : home w js b ≡ Some a = rw q at e in r s

-- the frames from a block on are those of the list that begins with it
pub homes_agree : HomesAgree
homes_agree w [] b = refl
homes_agree w (k ∷ ks) b = at (k.number == b) refl (homes_agree w ks b)
  where
    at : (t : Bool) → (k.number == b) ≡ t → home w ks b ≡ option_map (home_address w) (stacks.home (variables_in w) b ks)
        → home w (k ∷ ks) b ≡ option_map (home_address w) (stacks.home (variables_in w) b (k ∷ ks))
    at true q r = rw q (here (nat_lt k.number (variables_in w)) refl)
      where
        same : k.number ≡ b
        same = eqb-true k.number b q

        here : (t : Bool) → nat_lt k.number (variables_in w) ≡ t → Some (base w (k ∷ ks))
            ≡ Some (home_address w (if nat_lt b (variables_in w) then homes.Variable b else homes.Frame
            (stacks.frame_cells (variables_in w) (k ∷ ks))))
        here true e = rw (sym same, e) refl
        here false e = rw (sym same, e) refl
    at false q r = rw q r
