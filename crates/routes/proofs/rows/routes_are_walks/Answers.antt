-- Each clause is one of the route's parts, place by place.
use Rattle.routes.proofs.RoutePlaces.{route_begins, route_ends, route_linked, route_apart}
use Rattle.routes.proofs.rows.routes_are_walks.Goals as goal

pub returns-clause-begins : goal.returns-clause-begins
returns-clause-begins g c = λ m net A B row xs route. route_begins route

pub returns-clause-ends : goal.returns-clause-ends
returns-clause-ends g c = λ m net A B row xs route. route_ends route

pub returns-clause-linked : goal.returns-clause-linked
returns-clause-linked g c = λ m net A B row xs route. route_linked route

pub returns-clause-apart : goal.returns-clause-apart
returns-clause-apart g c = λ m net A B row xs route. route_apart route
