-- A number in w bytes reads back as itself, and w bytes are those of the number that they stand for.
use Rattle.std.proofs.Common.{◌≡◌, ℕ, zero, suc, ◌+◌, ◌*◌, ◌/◌, ◌%◌, ◌^◌, ◌<◌, ◌≤◌, List, ◌++◌, length, get_or, take, drop, sym, refl, ◌∙◌, add-zero, mod-eq_of_lt, mul_assoc, arith}
use native.Mathlib.Nat.{mul-add-div_right, mul-add-mod_self_right, pow-succ', one-le-pow}
use lib.Arith.{digits_lt, digits_div, mod-mul}
use Rattle.std.proofs.lemmas.List.{drop_more, drop-drop, get_or-drop}
use Rattle.planfile.specs.Bytes.{bytes, number_at}

-- each place of the list holds a byte
abbrev pub Small : List ℕ → Type 0
Small bs = (i : ℕ) → get_or bs i 0 < 256

-- w bytes stand for a number that has room in them
pub number_below : (w : ℕ) (bs : List ℕ) (i : ℕ) → Small bs → number_at w bs i < 256 ^ w
number_below zero bs i small = omega arith
number_below (suc w) bs i small = rw (pow-succ' 256 w) (digits_lt (small i) (number_below w bs (i + 1) small))

-- what lies above the w low bytes does not show in them
bytes_low : (w c v : ℕ) → bytes w (c * 256 ^ w + v) ≡ bytes w v
bytes_low zero c v = refl
bytes_low (suc w) c v =
    let shifted : c * 256 ^ suc w ≡ c * 256 * 256 ^ w = rw (pow-succ' 256 w, mul_assoc) in
    rw (shifted, mul-add-div_right (one-le-pow w 256 (omega arith)) (c * 256) v, mul-add-mod_self_right c 256 (v / 256 ^ w), bytes_low w (c * 256) v)

-- w bytes are those of the number that they stand for
pub bytes_of_number : (w : ℕ) (bs : List ℕ) (i : ℕ) → i + w ≤ length bs → Small bs → bytes w (number_at w bs i) ≡ take w (drop i bs)
bytes_of_number zero bs i fits small = refl
bytes_of_number (suc w) bs i fits small =
    let b = get_or bs i 0 in
    let low = number_below w bs (i + 1) small in
    rw (drop_more bs i 0 (omega arith), digits_div b low, mod-eq_of_lt (small i), bytes_low w b (number_at w bs (i + 1)), bytes_of_number w bs (i + 1) (omega arith) small)

-- the number that w bytes of v, at place i, stand for
number_of_low : (w v : ℕ) (bs rest : List ℕ) (i : ℕ) → drop i bs ≡ bytes w v ++ rest → number_at w bs i ≡ v % 256 ^ w
number_of_low zero v bs rest i e = omega arith
number_of_low (suc w) v bs rest i e =
    let first = rw (e, add-zero) at (get_or-drop i bs 0 0) in
    let later = sym (rw e at (drop-drop 1 i bs)) in
    rw (pow-succ' 256 w, mod-mul v {m = 256} (omega arith) (one-le-pow w 256 (omega arith)), ← first, number_of_low w v bs rest (i + 1) later)

-- it is v, where v has room in them
pub number_of_bytes : (w v : ℕ) (bs rest : List ℕ) (i : ℕ) → drop i bs ≡ bytes w v ++ rest → v < 256 ^ w → number_at w bs i ≡ v
number_of_bytes w v bs rest i e fits = number_of_low w v bs rest i e ∙ mod-eq_of_lt fits
