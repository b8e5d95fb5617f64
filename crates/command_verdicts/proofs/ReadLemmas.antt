-- Files that are read one after another.
use Rattle.std.proofs.Common.{◌≡◌, ℕ, zero, suc, ◌+◌, List, [], ◌∷◌, ◌++◌, length, map, take, Some, Option, arith, refl, sym, ap, ◌∙◌}
use Rattle.std.proofs.Common.{subst}
use Rattle.std.specs.Prelude.{slice_get, Vec}
use Rattle.std.specs.Global.{Global}
use Rattle.std.proofs.lemmas.List.{map-append}
use Rattle.elf_view.proofs.ByAddressLemmas.{take_one}
use Rattle.outside.specs.Store.{Files}
use Rattle.commands.specs.Files.{dump_bytes, dumps_sum}
use Rattle.commands.specs.Reads.{IsRead, EachRead}
use Rattle.commands.specs.declared.file.CommandFile.{CommandFile}
use Rattle.simulation.specs.Judged as judged

each_one : (holds : Option Files) (words : List (List ℕ)) (fs : List CommandFile) (cs : List (List ℕ)) (f : CommandFile) (b : List ℕ)
    → EachRead holds words fs cs → IsRead holds words f b → EachRead holds words (fs ++ f ∷ []) (cs ++ b ∷ [])
each_one holds words [] [] f b h r = (r, tt)
each_one holds words [] (c ∷ cs) f b h r = absurd h
each_one holds words (g ∷ fs) [] f b h r = absurd h
each_one holds words (g ∷ fs) (c ∷ cs) f b h r = (h.0, each_one holds words fs cs f b h.1 r)

sum_one : (holds : Option Files) (words : List (List ℕ)) (fs : List CommandFile) (cs : List (List ℕ)) (f : CommandFile) (b : List ℕ)
    → EachRead holds words fs cs → dumps_sum (fs ++ f ∷ []) (cs ++ b ∷ []) ≡ dumps_sum fs cs + dump_bytes f.kind (length b)
sum_one holds words [] [] f b h = omega arith
sum_one holds words [] (c ∷ cs) f b h = absurd h
sum_one holds words (g ∷ fs) [] f b h = absurd h
sum_one holds words (g ∷ fs) (c ∷ cs) f b h = let rest = sum_one holds words fs cs f b h.1 in omega arith

contents_one : (vs : List (Vec ℕ Global)) (v : Vec ℕ Global) → judged.contents (vs ++ v ∷ []) ≡ judged.contents vs ++ v.items ∷ []
contents_one vs v = map-append (λ (x : Vec ℕ Global). x.items) vs (v ∷ [])

-- one more file of a list was read
pub each_more : (holds : Option Files) (words : List (List ℕ)) (fs : List CommandFile) (i : ℕ) (vs : List (Vec ℕ Global)) (f : CommandFile)
    (v : Vec ℕ Global) → slice_get fs i ≡ Some f → EachRead holds words (take i fs) (judged.contents vs) → IsRead holds words f v.items
    → EachRead holds words (take (i + 1) fs) (judged.contents (vs ++ v ∷ []))
each_more holds words fs i vs f v here h r =
    subst (λ cs. EachRead holds words (take (i + 1) fs) cs) (sym (contents_one vs v))
    (subst (λ gs. EachRead holds words gs (judged.contents vs ++ v.items ∷ [])) (sym (take_one fs i f here))
    (each_one holds words (take i fs) (judged.contents vs) f v.items h r))

pub sum_more : (holds : Option Files) (words : List (List ℕ)) (fs : List CommandFile) (i : ℕ) (vs : List (Vec ℕ Global)) (f : CommandFile)
    (v : Vec ℕ Global) → slice_get fs i ≡ Some f → EachRead holds words (take i fs) (judged.contents vs)
    → dumps_sum (take (i + 1) fs) (judged.contents (vs ++ v ∷ [])) ≡ dumps_sum (take i fs) (judged.contents vs)
    + dump_bytes f.kind (length v.items)
sum_more holds words fs i vs f v here h =
    ap (λ gs. dumps_sum gs (judged.contents (vs ++ v ∷ []))) (take_one fs i f here)
    ∙ ap (λ cs. dumps_sum (take i fs ++ f ∷ []) cs) (contents_one vs v)
    ∙ sum_one holds words (take i fs) (judged.contents vs) f v.items h

-- as many contents as files
pub length-contents : (holds : Option Files) (words : List (List ℕ)) (fs : List CommandFile) (cs : List (List ℕ))
    → EachRead holds words fs cs
    → length cs ≡ length fs
length-contents holds words [] [] h = refl
length-contents holds words [] (c ∷ cs) h = absurd h
length-contents holds words (g ∷ fs) [] h = absurd h
length-contents holds words (g ∷ fs) (c ∷ cs) h = ap suc (length-contents holds words fs cs h.1)

pub length-items : (vs : List (Vec ℕ Global)) → length (judged.contents vs) ≡ length vs
length-items [] = refl
length-items (v ∷ vs) = ap suc (length-items vs)
