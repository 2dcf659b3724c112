-- Writing one more element after those written moves the border between the new and the old by one.
use Rattle.std.proofs.Common.{◌≡◌, ℕ, ◌+◌, ◌<◌, ◌≤◌, List, [], ◌++◌, map, Option, length, get_or, take, drop, set, arith}
use Rattle.std.proofs.lemmas.List.{append_assoc, drop_at, drop-drop, drop_more, length-append, length-map, length-take, length-take-le, map_more, map_push, set_at, take_at}
use Rattle.std.specs.List.{flat_map}
use Rattle.cost.specs.Kind.{Kind}
use Rattle.cost.specs.declared.link.Link.{Link}
use Rattle.planfile.specs.Fronted.{fronted}
use Rattle.planfile.specs.Records.{field_bytes, fields_of, first_fields, link_of}

-- the link of one more record, written at the border in the front of a list that has places for all
pub stored_more : {K : Type 0} (m : Kind K) (formed : ℕ → Option K) (rs : List (List ℕ)) (list : List (Link K)) (i : ℕ) → length rs ≤ length list → i < length (take (length rs) list) → set (map (link_of m formed) (map first_fields (take i rs)) ++ drop i (take (length rs) list)) i (link_of m formed (first_fields (get_or rs i []))) ≡ map (link_of m formed) (map first_fields (take (i + 1) rs)) ++ drop (i + 1) (take (length rs) list)
stored_more m formed rs list i room inside =
    let within : i < length rs = omega (arith, length-take-le (length rs) list room) in
    let written : length (map (link_of m formed) (map first_fields (take i rs))) ≡ i = simp (length-map, length-take) (omega arith) in
    rw (drop_more (take (length rs) list) i (link_of m formed (first_fields (get_or rs i []))) inside, set_at, map_more first_fields rs i [] within, map_push, append_assoc)

-- the bytes of the first i links, after the ten before them
abbrev pub begun : {K : Type 0} → Kind K → List (Link K) → List ℕ → ℕ → List ℕ
begun m links old i = take 10 old ++ flat_map field_bytes (map (fields_of m) (take i links))

-- a part, pasted after what is written
pub pasted_more : {X : Type 0} (new old part : List X) (i : ℕ) → length new ≡ i → take i (new ++ drop i old) ++ fronted part (drop i (new ++ drop i old)) ≡ (new ++ part) ++ drop (i + length part) old
pasted_more new old part i long = rw (take_at, drop_at, drop-drop, append_assoc)

-- a part of k after the front of i elements, which has been written
pub assembled : {X : Type 0} (front part old : List X) (i k : ℕ) → length front ≡ i → length part ≡ k → (take i (front ++ drop i old) ++ part) ++ drop (i + k) (front ++ drop i old) ≡ fronted (front ++ part) old
assembled front part old i k long more = rw (length-append front part, long, more, take_at, ← drop-drop k i (front ++ drop i old), drop_at, drop-drop)
