-- Numbers as bytes: what stands at a place of a list of bytes, as a number and as bytes.
use Rattle.std.proofs.Common.{w16, w32, w64, take, ◌≡◌, ℕ, zero, suc, ◌+◌, ◌*◌, ◌/◌, ◌%◌, ◌^◌, ◌<◌, ◌≤◌, List, ◌∷◌, ◌++◌, length, get_or, drop, sym, refl, ap, ◌∙◌, add-zero, arith, Fits}
use native.Mathlib.Nat.{pow-succ'}
use mir.Facts.{Fits-lt-pow}
use mir.Syntax.{Width}
use mir.Val.{bits}
use Rattle.std.proofs.ByRecursion.{All-get_or, All-from_get_or}
use Rattle.std.proofs.lemmas.List.{append_assoc, drop-drop, drop_at, drop_more, get_or-drop, get_or-take}
use Rattle.std.specs.Int.{from_le_bytes}
use Rattle.sheet_format.specs.Bytes.{field, bytes_of, AllBelow}

pub bytes_length : (w n : ℕ) → length (bytes_of w n) ≡ w
unfolding bytes_of
bytes_length zero n = refl
bytes_length (suc w) n = ap suc (bytes_length w (n / 256))

module _ (bytes : List ℕ) (at : ℕ) where
  -- a byte at some distance past a place
  pub byte_past : (k : ℕ) (l : List ℕ) → drop at bytes ≡ l → get_or bytes (at + k) 0 ≡ get_or l k 0
  byte_past k l e = sym (get_or-drop at bytes k 0) ∙ ap (λ x. get_or x k 0) e

  -- what stands at some distance past a place
  pub drop_past : (k : ℕ) (l : List ℕ) → drop at bytes ≡ l → drop (at + k) bytes ≡ drop k l
  drop_past k l e = sym (drop-drop k at bytes) ∙ ap (drop k) e

  -- what follows the bytes that stand at a place
  pub next : (k : ℕ) (s rest : List ℕ) → length s ≡ k → drop at bytes ≡ s ++ rest → drop (at + k) bytes ≡ rest
  next k s rest h e = drop_past k (s ++ rest) e ∙ drop_at s rest k h

  pub peel : (k : ℕ) (s t rest : List ℕ) → length s ≡ k → drop at bytes ≡ (s ++ t) ++ rest → (drop at bytes ≡ s ++ (t ++ rest)) × (drop (at + k) bytes ≡ t ++ rest)
  peel k s t rest h e =
      let whole = e ∙ append_assoc s t rest in
      (whole, next k s (t ++ rest) h whole)

  pub byte_at : (b : ℕ) (rest : List ℕ) → drop at bytes ≡ b ∷ rest → get_or bytes at 0 ≡ b
  byte_at b rest e = ap (λ k. get_or bytes k 0) (sym (add-zero at)) ∙ byte_past 0 (b ∷ rest) e

-- bytes that hold a number read as it
pub field_read : (bytes : List ℕ) (at w n : ℕ) (rest : List ℕ) → n < 256 ^ w → drop at bytes ≡ bytes_of w n ++ rest → field bytes at w ≡ n
unfolding field bytes_of
field_read bytes at zero n rest h e = omega arith
field_read bytes at (suc w) n rest h e =
    let p : n < 256 * 256 ^ w = rw (pow-succ' 256 w) at h in
    let low : get_or bytes at 0 ≡ n % 256 = byte_at bytes at (n % 256) (bytes_of w (n / 256) ++ rest) e in
    let high : field bytes (at + 1) w ≡ n / 256 = field_read bytes (at + 1) w (n / 256) rest (omega arith) (drop_past bytes at 1 (n % 256 ∷ (bytes_of w (n / 256) ++ rest)) e) in
    omega arith

-- the number that stands at a place, as bytes, is what stands there
pub field_back : (bytes : List ℕ) (at w : ℕ) → AllBelow 256 bytes → at + w ≤ length bytes → drop at bytes ≡ bytes_of w (field bytes at w) ++ drop (at + w) bytes
unfolding field bytes_of
field_back bytes at zero h k = ap (λ n. drop n bytes) (sym (add-zero at))
field_back bytes at (suc w) h k =
    let b : get_or bytes at 0 < 256 = All-get_or (λ n. n < 256) bytes at 0 (omega arith) h in
    let r : ℕ = field bytes (at + 1) w in
    let low : (get_or bytes at 0 + 256 * r) % 256 ≡ get_or bytes at 0 = omega arith in
    let high : (get_or bytes at 0 + 256 * r) / 256 ≡ r = omega arith in
    let place : at + 1 + w ≡ at + suc w = omega arith in
    drop_more bytes at 0 (omega arith)
    ∙ ap (λ l. get_or bytes at 0 ∷ l) (field_back bytes (at + 1) w h (omega arith))
    ∙ (λ i. sym low i ∷ (bytes_of w (sym high i) ++ drop (place i) bytes))

-- a number that stands in bytes fits them
pub field_fits : (bytes : List ℕ) (at w : ℕ) → AllBelow 256 bytes → at + w ≤ length bytes → field bytes at w < 256 ^ w
unfolding field
field_fits bytes at zero h k = omega arith
field_fits bytes at (suc w) h k =
    let b : get_or bytes at 0 < 256 = All-get_or (λ n. n < 256) bytes at 0 (omega arith) h in
    let r : field bytes (at + 1) w < 256 ^ w = field_fits bytes (at + 1) w h (omega arith) in
    rw (pow-succ' 256 w) (omega arith)

-- the same bytes are the same number
pub field_same : (xs ys : List ℕ) (i j w : ℕ) → ((k : ℕ) → k < w → get_or xs (i + k) 0 ≡ get_or ys (j + k) 0) → field xs i w ≡ field ys j w
unfolding field
field_same xs ys i j zero h = refl
field_same xs ys i j (suc w) h =
    let first : get_or xs i 0 ≡ get_or ys j 0 = ap (λ k. get_or xs k 0) (sym (add-zero i)) ∙ h 0 (omega arith) ∙ ap (λ k. get_or ys k 0) (add-zero j) in
    let rest = field_same xs ys (i + 1) (j + 1) w (λ k l.
    let a : i + 1 + k ≡ i + (k + 1) = omega arith in
    let b : j + 1 + k ≡ j + (k + 1) = omega arith in
    ap (λ n. get_or xs n 0) a ∙ h (k + 1) (omega arith) ∙ ap (λ n. get_or ys n 0) (sym b)) in
    omega (arith, first, rest)

-- the number in bytes that were cut out of others
pub field_cut : (bytes cut : List ℕ) (at w : ℕ) → cut ≡ take w (drop at bytes) → field cut 0 w ≡ field bytes at w
field_cut bytes cut at w e = field_same cut bytes 0 at w (λ k l. let place : 0 + k ≡ k = omega arith in ap (λ n. get_or cut n 0) place ∙ ap (λ x. get_or x k 0) e ∙ get_or-take w (drop at bytes) k 0 l ∙ get_or-drop at bytes k 0)

-- two, four and eight bytes, as the library reads them
pub field_two : (bytes : List ℕ) → from_le_bytes w16 bytes ≡ field bytes 0 2
unfolding field
field_two bytes = omega arith

pub field_four : (bytes : List ℕ) → from_le_bytes w32 bytes ≡ field bytes 0 4
unfolding field
field_four bytes = omega arith

pub field_eight : (bytes : List ℕ) → from_le_bytes w64 bytes ≡ field bytes 0 8
unfolding field
field_eight bytes = omega arith

-- the elements of a slice lie below what their width can hold
pub all_below : {w : Width} (xs : List ℕ) → ((i : ℕ) → Fits w (get_or xs i 0)) → AllBelow (2 ^ bits w) xs
all_below {w} xs fits = All-from_get_or (λ n. n < 2 ^ bits w) xs 0 (λ i _. Fits-lt-pow (fits i))
