-- Induction over a stretch of time, and its first time of a kind.
use Rattle.std.proofs.Common.{◌≡◌, ℕ, zero, suc, ◌+◌, ◌<◌, ◌≤◌, sym, subst, arith}
use native.Mathlib.Decide.{ℕ_discrete, dec_le}

-- what every step keeps from s on holds at every later time
pub lasts : (P : ℕ → Type 0) (s : ℕ) → ((t : ℕ) → s ≤ t → P t → P (suc t)) → P s → (t : ℕ) → s ≤ t → P t
lasts P s step here zero h = let e : s ≡ zero = omega arith in subst P e here
lasts P s step here (suc t) h =
    elim (dec_le s t) [
      | yes k ↦ step t k (lasts P s step here t k)
      | no k ↦ (let e : s ≡ suc t = omega arith in subst P e here)
    ]

-- the other way: from t down to s
pub back : (P : ℕ → Type 0) (s : ℕ) (t : ℕ) → ((u : ℕ) → s ≤ u → u < t → P (suc u) → P u) → P t → (u : ℕ) → s ≤ u → u ≤ t → P u
back P s zero step here u h k = let e : zero ≡ u = omega arith in subst P e here
back P s (suc t) step here u h k =
    elim (ℕ_discrete u (suc t)) [
      | yes e ↦ subst P (sym e) here
      | no g ↦ (let l : u ≤ t = omega arith in back P s t (λ x i j. step x i (omega arith)) (step t (omega arith) (omega arith) here) u h l)
    ]

-- the first time from s on at which P holds
pub record First (P : ℕ → Type 0) (s last : ℕ) : Type 0 where
  pub time : ℕ
  pub since : s ≤ time
  pub early : time ≤ last
  pub holds : P time
  pub none_before : (t : ℕ) → s ≤ t → t < time → P t → ⊥

pub first_of : (P : ℕ → Type 0) → ((t : ℕ) → Dec (P t)) → (k s last : ℕ) → s + k ≡ last → P last → First P s last
first_of P d zero s last e h = record { time = last; since = omega arith; early = omega arith; holds = h; none_before = λ t i j p. absurd (omega arith) }
first_of P d (suc k) s last e h =
    elim (d s) [
      | yes y ↦ record { time = s; since = omega arith; early = omega arith; holds = y; none_before = λ t i j p. absurd (omega arith) }
      | no n ↦ (let f = first_of P d k (suc s) last (omega arith) h in
          let i = f.since in
          record {
            time = f.time;
            since = omega arith;
            early = f.early;
            holds = f.holds;
            none_before = λ t i j p. elim (ℕ_discrete t s) [ yes e ↦ n (subst P e p) | no m ↦ f.none_before t (omega arith) j p ];
          })
    ]
