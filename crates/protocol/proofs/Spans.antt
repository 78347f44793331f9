-- A finished yes spans its effect to its commit: meanwhile its mark stands, so no two such spans meet at one location.
use Rattle.std.proofs.Common.{◌≡◌, ℕ, ◌<◌, ◌≤◌, true, false, List, sym, ap, ◌∙◌, arith}
use native.Mathlib.Decide.{dec_le}
use Rattle.protocol.specs.World.{World}
use Rattle.protocol.specs.World.Stage.{armed}
use Rattle.protocol.specs.Events.{maker}
use Rattle.protocol.specs.Events.Event.{commit}
use Rattle.protocol.specs.History.{History}
use Rattle.protocol.specs.Operations.{Request, Answer, Finished}
use Rattle.protocol.specs.Operations.Request.{read, ll, sc, snapshot, kcss}
use Rattle.protocol.specs.Operations.Answer.{values, said}
use Rattle.protocol.specs.Lists.{◌∈◌, by_effect, Ascending}
use Rattle.protocol.specs.Replay.{change}
use Rattle.protocol.specs.Replay.Change.{set}
use Rattle.protocol.specs.Certificates.{Shown}
use Rattle.protocol.specs.Certified.{Certified}
use Rattle.protocol.proofs.Changes.{clash, one_process, one_tag}
use Rattle.protocol.proofs.Views.{commit_can}
use Rattle.protocol.proofs.Attempts.{Armed, armed_through, one_commit}
use Rattle.protocol.proofs.Listing.{by_last, order_ascending}

-- from its effect to its last step, which commits, the process of a yes is armed at its location
pub record Spans {V : Type 0} (H : History V) (o : Finished V) (a : ℕ) (new : V) : Type 0 where
  pub commits : H.event o.last ≡ commit o.process a new
  pub noted : (H.at o.effect).stage o.process ≡ armed a
  pub same_tag : (H.at o.effect).tag o.process ≡ (H.at o.last).tag o.process

spans_of : {V : Type 0} (H : History V) (ended : List (Finished V)) (o : Finished V) (a : ℕ) (new : V) (r : Request V) (s : Answer V)
    → Shown H ended o r s → change r s ≡ set a new → Spans H o a new
spans_of H ended o a new (read b) (values l) c e = clash (cc)
spans_of H ended o a new (read b) (said y) c e = absurd c
spans_of H ended o a new (ll b) (values l) c e = clash (cc)
spans_of H ended o a new (ll b) (said y) c e = absurd c
spans_of H ended o a new (sc b u) (values l) c e = absurd c
spans_of H ended o a new (sc b u) (said true) c e =
    let x : b ≡ a = cc in
    let y : u ≡ new = cc in
    let z : o.last ≡ o.effect = c.at_once in
    let k : H.event o.effect ≡ commit o.process a new = c.its_cas ∙ (cc) in
    let j : H.event o.last ≡ commit o.process a new = ap H.event z ∙ k in
    record { commits = j; noted = (commit_can H o.effect o.process a new k).0; same_tag = ap (λ t. (H.at t).tag o.process) (sym z) }
spans_of H ended o a new (sc b u) (said false) c e = clash (cc)
spans_of H ended o a new (snapshot l) (values x) c e = clash (cc)
spans_of H ended o a new (snapshot l) (said y) c e = absurd c
spans_of H ended o a new (kcss f l u) (values x) c e = absurd c
spans_of H ended o a new (kcss f l u) (said true) c e =
    let i : f.location ≡ a = cc in
    let y : u ≡ new = cc in
    record { commits = c.commits ∙ (cc); noted = c.noted ∙ ap armed i; same_tag = c.same_tag }
spans_of H ended o a new (kcss f l u) (said false) c e = clash (cc)

-- the operation is a finished yes that sets a to the new value
abbrev pub Sets : {V : Type 0} → List (Finished V) → Finished V → ℕ → V → Type 0
Sets ended o a new = (o ∈ ended) × (change o.request o.answer ≡ set a new)

module _ {V : Type 0} (H : History V) (ended : List (Finished V)) (C : Certified H ended) where
  abbrev W : ℕ → World V
  W t = H.at t

  pub in_time : (o : Finished V) → o ∈ ended → o.effect ≤ o.last
  in_time o m = (C.each o m).timed.in_time

  pub spans : (o : Finished V) (a : ℕ) (new : V) → Sets ended o a new → Spans H o a new
  spans o a new d = spans_of H ended o a new o.request o.answer (C.each o d.0).shown d.1

  pub armed_at : (o : Finished V) (a : ℕ) (new : V) → Sets ended o a new → (t : ℕ) → o.effect ≤ t → t ≤ o.last → Armed (W t) o.process a ((W o.last).tag o.process)
  armed_at o a new d = let k = spans o a new d in armed_through H o.effect o.last o.process a new k.noted k.same_tag k.commits

  -- two yeses that commit with one tag are one
  pub one_yes : (o o' : Finished V) (a : ℕ) (v v' : V) → Sets ended o a v → Sets ended o' a v'
      → o.process ≡ o'.process → (W o.last).tag o.process ≡ (W o'.last).tag o'.process → o ≡ o'
  one_yes o o' a v v' d d' i j =
      let c' : H.event o'.last ≡ commit o.process a v' = (spans o' a v' d').commits ∙ ap (λ p. commit p a v') (sym i) in
      let k : (W o.last).tag o.process ≡ (W o'.last).tag o.process = j ∙ ap (λ p. (W o'.last).tag p) (sym i) in
      by_last ended C.apart o o' d.0 d'.0 (one_commit H o.last o'.last o.process a a v v' (spans o a v d).commits c' k)

  -- so are two yeses at one location whose spans meet
  pub meet : (t : ℕ) (o o' : Finished V) (a : ℕ) (v v' : V) → Sets ended o a v → Sets ended o' a v'
      → o.effect ≤ t → t ≤ o.last → o'.effect ≤ t → t ≤ o'.last → o ≡ o'
  meet t o o' a v v' d d' h k h' k' =
      let x = (armed_at o a v d t h k).in_val in
      let y = (armed_at o' a v' d' t h' k').in_val in
      one_yes o o' a v v' d d' (one_process ((W t).val a) o.process o'.process ((W o.last).tag o.process) ((W o'.last).tag o'.process) x y)
      (one_tag ((W t).val a) o.process o'.process ((W o.last).tag o.process) ((W o'.last).tag o'.process) x y)

  -- of two operations with one effect neither ends before the other
  not_before : (o o' : Finished V) → o ∈ ended → o' ∈ ended → o.effect ≡ o'.effect → o.last < o'.last → ⊥
  not_before o o' m m' e h =
      let k = in_time o m in
      (C.each o' m').timed.undisturbed o m (sym (C.each o m).timed.own_step ∙ ap (λ t. maker (H.event t)) e ∙ (C.each o' m').timed.own_step) (omega arith) h

  one_last : (o o' : Finished V) → o ∈ ended → o' ∈ ended → o.effect ≡ o'.effect → o.last ≡ o'.last
  one_last o o' m m' e =
      elim (dec_le o.last o'.last) [
        | yes i ↦ elim (dec_le o'.last o.last) [ yes j ↦ omega arith | no j ↦ absurd (not_before o o' m m' e (omega arith)) ]
        | no i ↦ absurd (not_before o' o m' m (sym e) (omega arith))
      ]

  -- an effect names its operation
  pub by_its_effect : (o o' : Finished V) → o ∈ ended → o' ∈ ended → o.effect ≡ o'.effect → o ≡ o'
  by_its_effect o o' m m' e = by_last ended C.apart o o' m m' (one_last o o' m m' e)

  pub ascending : Ascending (by_effect ended)
  ascending = order_ascending ended one_last C.apart
