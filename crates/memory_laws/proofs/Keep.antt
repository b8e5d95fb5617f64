-- What a value stands for stays, where each block that is known stays at its address or goes.
use Rattle.std.proofs.Common.{◌≡◌, ℕ, ◌+◌, ◌<◌, ◌≤◌, ◌⊎◌, List, Option, None, option_map, sym, subst, arith, inl, inr, ⊎_elim}
use Rattle.isa_model.specs.Word.{wrapped}
use Rattle.effect_model.specs.Files.{File}
use Rattle.asm_mem.specs.declared.value.Val.{Val}
use Rattle.asm_mem.specs.declared.value.Val.TheVariants.{Undef, Int, Ptr, Code, Ext, Stop, Ha}
use Rattle.asm_mem.specs.declared.cell.Cell.{Cell}
use Rattle.asm_mem.specs.declared.cell.Cell.TheVariants.{Nothing, Byte, Part}
use Rattle.asm_mem.specs.Blocks.{Live}
use Rattle.machine_model.specs.Worlds.{World, home, shown}
use Rattle.machine_model.specs.Relation.{Named, Shows, Means, FilesAgree, PartShows, CellMeans, PlacesAgree}
use Rattle.value_laws.proofs.Both.{both_map}

pub record Keeps (w : World) (live : List Live) (next : ℕ) (live' : List Live) (next' : ℕ) : Type 0 where
  pub grows : next ≤ next'
  pub homes : (b : ℕ) → b < next → (home w live' b ≡ home w live b) ⊎ (home w live' b ≡ None)

module _ (w : World) (live : List Live) (next : ℕ) (live' : List Live) (next' : ℕ) (k : Keeps w live next live' next') where
  named_keep : (v : Val) → Named w next v → Named w next' v
  named_keep Undef h = tt
  named_keep (Int n) h = tt
  named_keep (Ptr b o) h = let g = k.grows in omega arith
  named_keep (Code f i) h = h
  named_keep (Ext x o) h = h
  named_keep Stop h = tt
  named_keep (Ha l o n) h = h

  -- any fact on the shown word that holds where there is none
  kept : (P : Option ℕ → Type 0) → P None → (v : Val) → Named w next v → P (shown w live v) → P (shown w live' v)
  kept P n Undef h p = p
  kept P n (Int i) h p = p
  kept P n (Ptr b o) h p =
      ⊎_elim
      (λ e. subst (λ q. P (option_map (λ a. wrapped (a + o)) q)) (sym e) p)
      (λ e. subst (λ q. P (option_map (λ a. wrapped (a + o)) q)) (sym e) n)
      (k.homes b h)
  kept P n (Code f i) h p = p
  kept P n (Ext x o) h p = p
  kept P n Stop h p = p
  kept P n (Ha l o i) h p = p

  pub means_keep : (v : Val) (x : ℕ) → Means w live next v x → Means w live' next' v x
  means_keep v x m = record { named = named_keep v m.named; shows = kept (λ o. Shows o x) tt v m.named m.shows }

  pub cell_keep : (c : Cell) (x : ℕ) → CellMeans w live next c x → CellMeans w live' next' c x
  cell_keep Nothing x m = tt
  cell_keep (Byte y) x m = m
  cell_keep (Part v j) x m = (named_keep v m.0, kept (λ o. PartShows o j x) tt v m.0 m.1)

  pub files_keep : (f : File Val) (g : File ℕ) → FilesAgree w live next f g → FilesAgree w live' next' f g
  files_keep f g h = record {
    gprs = both_map (Means w live next) (Means w live' next') means_keep f.gprs g.gprs h.gprs;
    wide = h.wide;
    bits = both_map (Means w live next) (Means w live' next') means_keep f.bits g.bits h.bits;
    bits_wide = h.bits_wide;
    lr = means_keep _ _ h.lr;
    ctr = means_keep _ _ h.ctr;
    ca = means_keep _ _ h.ca;
    so = means_keep _ _ h.so;
    bases = h.bases;
  }

  pub place_keep : (v : Val) (x : ℕ) → PlacesAgree w live next v x → PlacesAgree w live' next' v x
  place_keep v x h = record { target = h.target; means = means_keep v x h.means }

pub same_homes : (w : World) (live live' : List Live) (next : ℕ) → ((b : ℕ) → home w live' b ≡ home w live b) → Keeps w live next live' next
same_homes w live live' next e = record { grows = omega arith; homes = λ b h. inl (e b) }
