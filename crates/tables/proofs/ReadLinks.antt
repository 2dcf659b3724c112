-- What a file that was read holds: its links run between its stations.
use Rattle.std.specs.Prelude.{◌≡◌, ℕ, zero, suc, ◌*◌, ◌<◌, List, Option, [], ◌∷◌, ◌++◌, ◌≤◌, length, map, take, slice_index_or}
use Rattle.std.proofs.Common.{◌∙◌, arith, ap, subst}
use Rattle.std.proofs.lemmas.List.{get_or-take, length-take}
use Rattle.cost.specs.Kind.{Kind}
use Rattle.cost.specs.declared.link.Link.{Link}
use Rattle.filekind.specs.Format.{Format}
use Rattle.planfile.specs.Records.{fields_of}
use Rattle.planfile.specs.Sound.{Laid, Sound}
use Rattle.planfile.specs.Fronted.{fronted}
use Rattle.planfile.specs.Reading.{count_of, links_of, stations_of}
use Rattle.planfile.proofs.FrontLinks.{links_in_front}
use Rattle.tables.specs.declared.state.Tables.{Tables}
use Rattle.tables.specs.Lent.{SameMemory}
use Rattle.tables.specs.View.{ledger_of}
use Rattle.tables.specs.Filled.{Filled}
use Rattle.tables.specs.Made.{made}
use Rattle.tables.specs.Read.{Read}
use Rattle.planfile.specs.declared.fields.Fields.{Fields}

-- the link at each place runs between stations
pub laid_between : {K : Type 0} (m : Kind K) (f : Format) (n : ℕ) (earlier : List Fields) (links : List (Link K)) → Laid f n earlier (map (fields_of m) links) → (k : ℕ) (d : Link K) → k < length links → ((slice_index_or links k d).from < n) × ((slice_index_or links k d).to < n)
laid_between m f n earlier [] laid k d within = absurd (omega (arith, within))
laid_between m f n earlier (l ∷ links) laid zero d within = (laid.0.from, laid.0.to)
laid_between m f n earlier (l ∷ links) laid (suc k) d within = laid_between m f n (earlier ++ fields_of m l ∷ []) links laid.1 k d (omega (arith, within))

pub front_between : {K : Type 0} (m : Kind K) (f : Format) {n count : ℕ} (list : List (Link K)) → Sound f n (map (fields_of m) (take count list)) → count ≤ length list
    → (k : ℕ) (d : Link K) → k < count → ((slice_index_or list k d).from < n) × ((slice_index_or list k d).to < n)
front_between m f {n} {count} list sound fits k d within =
    let there : k < length (take count list) = omega (arith, length-take count list, fits, within) in
    rw (get_or-take count list k d within) at (laid_between m f n [] (take count list) sound.laid k d there)

-- tables that were commissioned with what was read into the list hold the file
pub file_read : {K : Type 0} (m : Kind K) (formed : ℕ → Option K) (bs : List ℕ) (t t' : Tables K) {n count : ℕ} {list : List (Link K)} → n ≡ stations_of bs → count ≡ count_of bs → list ≡ fronted (links_of m formed bs) t.list.now → length list ≡ length t.list.now
    → SameMemory t t' → ledger_of t' ≡ made n (length list) (take count list) → t'.list.now ≡ list → Filled 0 (n * n) m.far t.costs.now t'.costs.now → Filled 0 (n * n) 65535 t.predecessors.now t'.predecessors.now → Read m formed bs t t'
file_read m formed bs t t' {n} {count} {list} stations counted after long memory ledger same costs predecessors =
    let links : take count list ≡ links_of m formed bs = ap (λ k. take k list) counted ∙ ap (take (count_of bs)) after ∙ links_in_front m formed bs t.list.now in record {
      memory = memory;
      ledger = ledger ∙ ap (λ k. made k (length list) (take count list)) stations ∙ ap (λ p. made (stations_of bs) p (take count list)) long ∙ ap (made (stations_of bs) (length t.list.now)) links;
      list = same ∙ after;
      costs = subst (λ k. Filled 0 (k * k) m.far t.costs.now t'.costs.now) stations costs;
      predecessors = subst (λ k. Filled 0 (k * k) 65535 t.predecessors.now t'.predecessors.now) stations predecessors;
    }
