use Rattle.std.proofs.Common.{◌≡◌, ◌≤◌, ◌+◌, ◌++◌, ◌∷◌, [], length, map, take, string_bytes, arith, ap, sym, subst, ◌∙◌}
use Rattle.limits.specs.declared.TheConstants.{MOST_DUMPS_BYTES}
use Rattle.commands.specs.Files.{dump_bytes, dumps_sum, files}
use Rattle.commands.specs.Reads.{AreRead, EachRead, IsRead}
use Rattle.simulation.specs.Judged as judged
use Rattle.command_verdicts.proofs.ReadLemmas.{each_more, sum_more}
use Rattle.command_verdicts.proofs.StopLemmas.{stops_at, past_total}
use Rattle.command_verdicts.proofs.read.read_files.Goals as goal

pub returns-in-Err-clause-stopped : goal.returns-in-Err-clause-stopped
returns-in-Err-clause-stopped g c =
    stops_at (g.S.Store.holds c.args.store.now) (g.S.Store.holds c.loop-i.store) (g.S.Store.faults c.args.store.now)
    (g.S.Store.faults c.loop-i.store) (g.S.Store.faults c.read_file.new.store) (g.S.Store.blamed c.read_file.new.store)
    (map string_bytes c.args.words.now) (files c.args.command) c.file_at-file.result c.loop-i.i (judged.contents c.loop-i.contents.items)
    c.in-Err.stop c.loop-i.invariant.kept c.loop-i.invariant.quiet c.file_at-file.ensures
    (record {
      each = c.loop-i.invariant.each;
      dumps = subst (λ n. n ≤ MOST_DUMPS_BYTES) c.loop-i.invariant.sum c.loop-i.invariant.fits;
    })
    c.in-Err.ensures.stopped

pub returns-in-None-clause-stopped : goal.returns-in-None-clause-stopped
returns-in-None-clause-stopped g c =
    let added : dump_bytes c.file_at-file.result.kind (length c.as_slice.result.now)
    ≡ dump_bytes c.file_at-file.result.kind (length c.in-Ok.bytes.items) =
    ap (λ xs. dump_bytes c.file_at-file.result.kind (length xs)) c.as_slice.ensures.value in
    let so_far = c.loop-i.invariant.sum in
    let past = c.in-None.ensures in
    past_total (g.S.Store.holds c.args.store.now) (g.S.Store.faults c.args.store.now) (g.S.Store.faults c.read_file.new.store)
    (g.S.Store.blamed c.read_file.new.store) (map string_bytes c.args.words.now) (files c.args.command) c.file_at-file.result c.loop-i.i
    (judged.contents c.loop-i.contents.items) c.in-Ok.bytes.items c.file_at-file.ensures
    (record {
      each = c.loop-i.invariant.each;
      dumps = subst (λ n. n ≤ MOST_DUMPS_BYTES) c.loop-i.invariant.sum c.loop-i.invariant.fits;
    })
    (subst (λ h. IsRead h (map string_bytes c.args.words.now) c.file_at-file.result c.in-Ok.bytes.items) c.loop-i.invariant.kept
    c.in-Ok.ensures.read)
    (omega arith)

pub loop-i-preserved : goal.loop-i-preserved
loop-i-preserved g c =
    let added : dump_bytes c.file_at-file.result.kind (length c.as_slice.result.now)
    ≡ dump_bytes c.file_at-file.result.kind (length c.in-Ok.bytes.items) =
    ap (λ xs. dump_bytes c.file_at-file.result.kind (length xs)) c.as_slice.ensures.value in
    let so_far = c.loop-i.invariant.sum in
    let within = c.in-Some.ensures.0 in
    let total = c.in-Some.ensures.1 in
    let items : c.push.new.self.items ≡ c.loop-i.contents.items ++ c.in-Ok.bytes ∷ [] = c.in_ok-push.ensures.items in
    let one : IsRead (g.S.Store.holds c.args.store.now) (map string_bytes c.args.words.now) c.file_at-file.result c.in-Ok.bytes.items =
    subst (λ h. IsRead h (map string_bytes c.args.words.now) c.file_at-file.result c.in-Ok.bytes.items) c.loop-i.invariant.kept
    c.in-Ok.ensures.read in
    let each = each_more (g.S.Store.holds c.args.store.now) (map string_bytes c.args.words.now) (files c.args.command) c.loop-i.i
    c.loop-i.contents.items c.file_at-file.result c.in-Ok.bytes c.file_at-file.ensures c.loop-i.invariant.each one in
    let more = sum_more (g.S.Store.holds c.args.store.now) (map string_bytes c.args.words.now) (files c.args.command) c.loop-i.i
    c.loop-i.contents.items c.file_at-file.result c.in-Ok.bytes c.file_at-file.ensures c.loop-i.invariant.each in
    let whole : c.in-Some.total
    ≡ dumps_sum (take (c.loop-i.i + 1) (files c.args.command)) (judged.contents (c.loop-i.contents.items ++ c.in-Ok.bytes ∷ [])) =
    omega arith in
    record {
      kept = c.read_file.ensures.kept ∙ c.loop-i.invariant.kept;
      quiet = c.in-Ok.ensures.quiet ∙ c.loop-i.invariant.quiet;
      each = subst (λ vs. EachRead (g.S.Store.holds c.args.store.now) (map string_bytes c.args.words.now)
          (take (c.loop-i.i + 1) (files c.args.command)) (judged.contents vs)) (sym items) each;
      sum = subst (λ vs. c.in-Some.total ≡ dumps_sum (take (c.loop-i.i + 1) (files c.args.command)) (judged.contents vs)) (sym items) whole;
      fits = omega arith;
    }
