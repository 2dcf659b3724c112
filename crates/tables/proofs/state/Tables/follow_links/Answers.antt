-- Each index of the part holds the place of a laid link. What the row is worked from is as it was.
use Rattle.std.specs.Prelude.{slice_index_or}
use Rattle.std.proofs.Common.{◌∙◌, arith, refl, ap, rules}
use Rattle.std.proofs.lemmas.List.{length-take}
use Rattle.departures.specs.Index.{place_at}
use Rattle.departures.proofs.Parts.{place_within}
use Rattle.tables.proofs.Keeping.{kept_guide, kept_itself, kept_links, kept_twice}
use Rattle.tables.proofs.Part.{no_link, part_begins, part_goes_on}
use Rattle.tables.specs.View.{ledger_of}
use Rattle.tables.proofs.state.Tables.follow_links.Goals as goal

pub loop-index-init : goal.loop-index-init
loop-index-init g c = record {
  kept = kept_itself c.args.taken.source c.args.self.now;
  same_stations = refl;
  so_far = rw c.range-part.ensures.begin (part_begins g.K.Cost.kind c.args.taken.label c.args.taken.station _ _ _ _ c.args.self.now.indexed (search rules) (search rules) _);
}

pub link-link-requires : goal.link-link-requires
link-link-requires g c =
    let t = c.args.self.now in
    let kept = c.loop-index.invariant.kept in
    let there = place_within t.indexed (search rules) c.args.taken.station (search rules) c.loop-index.index (search rules) (search rules) in
    let place = c.place.ensures.value ∙ ap (λ d. place_at d c.loop-index.index) kept.departures in
    omega (arith, there, place, kept.count, length-take t.count t.list.now)

pub loop-index-preserved : goal.loop-index-preserved
loop-index-preserved g c =
    let m = g.K.Cost.kind in
    let so_far = c.loop-index.invariant in
    let links = (ledger_of c.args.self.now).links in
    let link = c.link-link.ensures.value (no_link m)
    ∙ ap (λ ls. slice_index_or ls c.place.result (no_link m)) (kept_links so_far.kept)
    ∙ ap (λ k. slice_index_or links k (no_link m)) (c.place.ensures.value ∙ ap (λ d. place_at d c.loop-index.index) so_far.kept.departures) in
    let step = c.follow_link.ensures in record {
      kept = kept_twice so_far.kept step.kept;
      same_stations = step.queue ∙ so_far.same_stations;
      so_far = part_goes_on m c.args.taken.label c.args.taken.station _ _ _ _ (search rules) so_far.so_far link (rw (kept_guide m so_far.kept c.args.taken.guide c.requires.guide) at step.state);
    }
