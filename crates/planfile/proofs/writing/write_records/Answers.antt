-- One more record pasted is one more of the encoding.
use Rattle.std.proofs.Common.{◌≡◌, ℕ, ◌+◌, ◌*◌, ◌<◌, ◌≤◌, List, ◌++◌, map, length, get_or, take, drop, arith}
use Rattle.std.proofs.lemmas.List.{flat_map_more, length-append, length-map, length-take, map_more}
use Rattle.cost.specs.Kind.{Kind}
use Rattle.cost.specs.declared.link.Link.{Link}
use Rattle.planfile.specs.Fronted.{fronted}
use Rattle.planfile.specs.Records.{field_bytes, fields_of}
use Rattle.planfile.proofs.RecordBytes.{length-records}
use Rattle.planfile.proofs.Stored.{begun, pasted_more}
use Rattle.planfile.proofs.writing.write_records.Goals as goal

-- the record of the link at i, pasted after them
record_more : {K : Type 0} (m : Kind K) (links : List (Link K)) (old : List ℕ) (i : ℕ) (x : Link K) → 10 ≤ length old → i < length links → x ≡ get_or links i x → take (10 + 12 * i) (begun m links old i ++ drop (10 + 12 * i) old) ++ fronted (field_bytes (fields_of m x)) (drop (10 + 12 * i) (begun m links old i ++ drop (10 + 12 * i) old)) ≡ begun m links old (i + 1) ++ drop (10 + 12 * (i + 1)) old
record_more m links old i x room within is =
    let long : length (begun m links old i) ≡ 10 + 12 * i = simp (length-append, length-records, length-map, length-take) (omega arith) in
    let next : 10 + 12 * (i + 1) ≡ 10 + 12 * i + 12 = omega arith in
    rw (next, map_more (fields_of m) links i x within, ← is, ← flat_map_more field_bytes (take 10 old) (map (fields_of m) (take i links)) (fields_of m x)) (pasted_more (begun m links old i) old (field_bytes (fields_of m x)) (10 + 12 * i) long)

pub loop-index-preserved : goal.loop-index-preserved
loop-index-preserved g c =
    rw (c.paste.ensures.after, c.loop-index.invariant, c.into-record.ensures, c.from.ensures) (record_more g.K.Cost.kind c.args.links.now c.args.buffer.now c.loop-index.index c.index-links-index.result (omega arith) c.loop-index-test.true c.index-links-index.is)
