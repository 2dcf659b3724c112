-- The laws that every cost kind shows. The two strict laws stand in a record of their own, so that it can be
-- seen what is shown without them.
--
--   Laws m       ranks are 64-bit numbers; join is associative; zero changes nothing, FAR takes over
--                everything; join keeps "at most" on both sides
--   Strict m     join keeps "below"; joining a cost other than zero goes above
--   ZeroLeast m  zero is at most every cost, which the strict laws say too
use Rattle.std.specs.Prelude.{◌≡◌, ◌≤◌}
use Rattle.cost.specs.Kind.{Kind, FAR, Same, AtMost, Below}

pub record Laws {K : Type 0} (m : Kind K) : Type 0 where
  pub rank_fits : (a : K) → m.rank a ≤ FAR
  pub far_rank : m.rank m.far ≡ FAR
  pub zero_is_not_far : Same m m.zero m.far → ⊥
  pub join_associative : (a b c : K) → Same m (m.joined (m.joined a b) c) (m.joined a (m.joined b c))
  pub zero_left : (a : K) → Same m (m.joined m.zero a) a
  pub zero_right : (a : K) → Same m (m.joined a m.zero) a
  pub far_left : (a : K) → Same m (m.joined m.far a) m.far
  pub far_right : (a : K) → Same m (m.joined a m.far) m.far
  pub join_keeps_left : (a b c : K) → AtMost m a b → AtMost m (m.joined c a) (m.joined c b)
  pub join_keeps_right : (a b c : K) → AtMost m a b → AtMost m (m.joined a c) (m.joined b c)

pub record Strict {K : Type 0} (m : Kind K) : Type 0 where
  pub join_keeps_below : (a b c : K) → Below m a b → (Same m (m.joined c a) m.far → ⊥) → Below m (m.joined c a) (m.joined c b)
  pub join_goes_above : (a b : K) → (Same m a m.far → ⊥) → (Same m b m.zero → ⊥) → Below m a (m.joined a b)

abbrev pub ZeroLeast : {K : Type 0} → Kind K → Type 0
ZeroLeast {K} m = (a : K) → AtMost m m.zero a
