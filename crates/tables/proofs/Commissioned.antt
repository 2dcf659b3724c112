-- How a plan stands that is new, or was just made, or read from a file.
use Rattle.std.proofs.Common.{◌≡◌, ◌≢◌, ℕ, ◌≤◌, List, [], length, map, None, Option, Result, Ok, Err, OnOk, refl, subst, sym, ap, arith}
use Rattle.std.proofs.lemmas.Bool.Decides.{nat_tests}
use Rattle.std.proofs.lemmas.List.Elements.{All-nil}
use Rattle.std.specs.List.{All}
use Rattle.cost.specs.Kind.{Kind, Below}
use Rattle.cost.specs.declared.link.Link.{Link}
use Rattle.refusal.specs.First.{told}
use Rattle.refusal.specs.declared.Refusal.{Refusal}
use Rattle.filekind.specs.Format.{Format}
use Rattle.planfile.specs.Reading.{links_of, stations_of}
use Rattle.planfile.specs.Records.{fields_of}
use Rattle.planfile.specs.RoundTrip.{Holds}
use Rattle.planfile.specs.Sound.{Sound}
use Rattle.routes.proofs.Members.{in_none}
use Rattle.ledger.specs.Starts.{Starts}
use Rattle.ledger.specs.Effects.{AllCleared}
use Rattle.ledger.specs.Ledger.{Ledger}
use Rattle.ledger.specs.Stands.{Stands}
use Rattle.ledger.proofs.Stood.{start_stands}
use Rattle.tables.specs.Made.{make_refusal, made, Made}
use Rattle.tables.specs.Read.{Read}
use Rattle.tables.specs.View.{ledger_of, view_of}
use Rattle.tables.specs.declared.state.Tables.{Tables}
use Rattle.tables.proofs.SoundLinks.{sound_fair}

module _ {K : Type 0} (m : Kind K) where
  -- so many stations, with no link
  starts_empty : (n places : ℕ) → n ≤ 256 → Starts m (made n places [])
  starts_empty n places few = record {
    not_too_many = few;
    fair = record {
      between = λ l laid. absurd (in_none laid);
      to_another = All-nil (λ l. l.from ≢ l.to);
      pairs = λ i j d before within. absurd (omega (arith, within));
      none_free = λ l laid. absurd (in_none laid);
    };
    none_marked = refl;
  }

  -- a plan that is not commissioned yet
  pub new_stands : (t : Tables K) (places : ℕ) → ledger_of t ≡ made 0 places [] → Stands m (made 0 places []) [] (view_of m t)
  new_stands t places is =
      start_stands (starts_empty 0 places (omega arith)) is (λ a there. absurd (omega (arith, there, ap (λ (g : Ledger K). g.stations) is)))

  module _ (t t' : Tables K) where
    few : (n places costs predecessors : ℕ) → make_refusal n places costs predecessors ≡ None → n ≤ 256
    few n places costs predecessors none = grind (arith, nat_tests, none)

    -- a plan that was made of so many stations
    pub made_stands : (n costs predecessors : ℕ) (r : Result Unit Refusal)
        → told r ≡ make_refusal n (length t.list.now) costs predecessors → OnOk r (Made m n t t') → OnOk r (AllCleared m (view_of m t'))
        → OnOk r (Stands m (made n (length t.list.now) []) [] (view_of m t'))
    made_stands n costs predecessors (Ok x) refused left cleared =
        start_stands (starts_empty n (length t.list.now) (few n (length t.list.now) costs predecessors (sym refused))) left.ledger cleared
    made_stands n costs predecessors (Err refusal) refused left cleared = tt

    -- one that was read from a file
    module _ (formed : ℕ → Option K) (f : Format) (bs : List ℕ) where
      abbrev links : List (Link K)
      links = links_of m formed bs

      abbrev Held : Type 0
      Held = Holds m f (ledger_of t').stations (ledger_of t').links bs

      read_starts : (places : ℕ) → Read m formed bs t t' → Held → Starts m (made (stations_of bs) places links)
      read_starts places left holds =
          let sound = subst (λ (g : Ledger K). Sound f g.stations (map (fields_of m) g.links)) left.ledger holds.sound in
          let costly = subst (λ (g : Ledger K). All (λ l. Below m m.zero l.cost) g.links) left.ledger holds.none_free in
          record {
            not_too_many = sound.few;
            fair = sound_fair m f (stations_of bs) links sound costly;
            none_marked = refl;
          }

      pub read_stands : (r : Result Unit Refusal) → OnOk r (Read m formed bs t t') → OnOk r (AllCleared m (view_of m t')) → OnOk r Held
          → OnOk r (Stands m (made (stations_of bs) (length t.list.now) links) [] (view_of m t'))
      read_stands (Ok x) left cleared holds =
          start_stands (read_starts (length t.list.now) left holds) left.ledger cleared
      read_stands (Err refusal) left cleared holds = tt
