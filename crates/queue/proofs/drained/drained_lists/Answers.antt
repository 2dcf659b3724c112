-- Each clause is one of the parts, place by place.
use Rattle.queue.proofs.DrainedPlaces.{place_waited, place_gone, places_apart, places_rise, none_below_place, others_stay, same_stations, all_counted}
use Rattle.queue.proofs.drained.drained_lists.Goals as goal

pub returns-clause-waited : goal.returns-clause-waited
returns-clause-waited c = λ m left xs drained. place_waited drained

pub returns-clause-gone : goal.returns-clause-gone
returns-clause-gone c = λ m left xs drained. place_gone drained

pub returns-clause-apart : goal.returns-clause-apart
returns-clause-apart c = λ m left xs drained. places_apart drained

pub returns-clause-rising : goal.returns-clause-rising
returns-clause-rising c = λ m left xs drained. places_rise drained

pub returns-clause-none_lower : goal.returns-clause-none_lower
returns-clause-none_lower c = λ m left xs drained. none_below_place drained

pub returns-clause-others : goal.returns-clause-others
returns-clause-others c = λ m left xs drained. others_stay drained

pub returns-clause-stations : goal.returns-clause-stations
returns-clause-stations c = λ m left xs drained. same_stations drained

pub returns-clause-taken : goal.returns-clause-taken
returns-clause-taken c = λ m left xs drained. all_counted drained
