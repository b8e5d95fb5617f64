use Rattle.std.proofs.Common.{◌≡◌, ℕ, List, ◌≤◌, ◌++◌, length, map, take, drop, refl, arith, sym, subst}
use Rattle.std.specs.Prelude.{All, IsPermutation}
use Rattle.std.proofs.lemmas.List.{take-append-le, take_all}
use Rattle.std.proofs.lemmas.List.Sorted.{IsPermutation-map}
use Rattle.image_model.specs.Segments.{IsLoadable}
use Rattle.elf_view.proofs.ByAddressLemmas.{sorted_map, all_permuted}
use Rattle.elf_view.specs.ByAddress.{IsNumbered, begin, numbered_seen}
use Rattle.elf_view.specs.declared.loaded_segments.NumberedSegment.{NumberedSegment}
use Rattle.elf_view.proofs.loaded_segments.LoadedSegments.read.Goals as goal

written_whole : (n : ℕ) (xs ys : List NumberedSegment) → n ≡ length ys → take n (ys ++ xs) ≡ ys
written_whole n xs ys e =
    let le = (let h : n ≤ length ys = omega arith in h) in
    rw (take-append-le n ys xs le) (take_all n ys (omega arith))

pub invariant_of-result : goal.invariant_of-result
invariant_of-result c =
    let ys = c.sort.new.segments in
    let xs = c.in_ok-segments.segments.items in
    let v = c.copy.result in
    let count : c.in_ok-segments.segments.len ≡ length ys = omega (arith, c.deref_mut.ensures.len, c.sort.auto.segments) in
    let moved : IsPermutation xs ys = rw (← c.deref_mut.ensures.value) c.sort.ensures.all in
    let all : IsPermutation v.segments (map numbered_seen ys) =
    rw (c.copy.ensures, ← c.in_ok-segments.ensures.all) (IsPermutation-map numbered_seen xs ys moved) in
    let numbers : All (IsNumbered v.segments) ys =
    rw c.copy.ensures (all_permuted (IsNumbered c.args.view.now.segments) xs ys moved c.in_ok-segments.ensures.numbers) in
    rw (written_whole c.in_ok-segments.segments.len (drop (length ys) xs) ys count) (record {
      seen = record {
        loadable = subst IsLoadable (sym c.copy.ensures) c.all_segments.ensures.loadable;
        all = all;
        sorted = sorted_map numbered_seen begin (λ s. refl) ys c.sort.ensures.sorted;
      };
      sorted = c.sort.ensures.sorted;
      numbers = numbers;
    })
