-- What a Start fills shows the phase that the relation's Start leads to.
use Rattle.std.proofs.Common.{◌≡◌, ℕ, zero, suc, ◌+◌, true, false, eqb, List, [], ◌∷◌, length, Some, None, Option, refl, ap, ◌∙◌, subst, arith}
use mathlib.Core.Option as maybe
use Rattle.std.proofs.lemmas.Bool.{eqb-true}
use Rattle.memory.specs.declared.cell.Cell.TheVariants.{Id}
use Rattle.operation.specs.declared.kind.OperationKind.{OperationKind}
use Rattle.operation.specs.declared.kind.OperationKind.TheVariants.{Read, Ll, Sc, Snapshot, Kcss}
use Rattle.operation.specs.Kinds.{counted}
use Rattle.phases.specs.declared.records.Operand.{Operand}
use Rattle.lines.specs.Comparing.{operand_at}
use Rattle.lines.specs.Suiting.{snapshot_from}
use Rattle.lines.specs.Recording.{first_phase}
use Rattle.protocol.specs.World.{id_cell}
use Rattle.protocol.specs.Operations.{Expected, Request}
use Rattle.protocol.specs.Operations.Request.{sc, kcss}
use Rattle.protocol.specs.Phases as relation
use Rattle.protocol.specs.Phases.{Row, Rows}
use Rattle.protocol.specs.Phases.Phase.{resting}
use Rattle.protocol.specs.Phases.Process.{proc}
use Rattle.protocol.specs.Runs.{Begins}
use Rattle.protocol.specs.Runs.Begins.{begins_read, begins_ll, begins_sc, begins_snapshot, begins_kcss}
use Rattle.lines.specs.Gathering.{gather}
use Rattle.std.specs.Option.{option_map, option_and_then}
use Rattle.protocol.specs.Opening.{Allowed}
use Rattle.protocol.proofs.Changes.{clash}
use Rattle.line_views.specs.View.{wanted, all_wanted, request_of}
use Rattle.line_views.specs.View.Running.{runs}
use Rattle.steps_lawful.specs.Showing.{Fits, Shows}
use Rattle.steps_lawful.specs.Showing.Links.{links_ll, links_kcss}
use Rattle.steps_lawful.specs.Showing.LinkPhase.{at_attempt}
use Rattle.steps_lawful.specs.Showing.Collects.{collects_snapshot}
use Rattle.steps_lawful.specs.Showing.CollectPhase.{at_s6}
use Rattle.steps_lawful.specs.Showing.Shows.{shows_read, shows_link, shows_sc, shows_collect}
use Rattle.steps_lawful.specs.Starting.{link_at_start, StartsBegin}
use Rattle.steps_lawful.proofs.Asking.{asked_snapshot, asked_kcss}

-- what was there, where something followed from it
there : {A B : Type 0} (x : Option A) (f : A → Option B) (y : B) → option_and_then f x ≡ Some y → (z : A) × (x ≡ Some z) × (f z ≡ Some y)
there None f y e = clash (cc)
there (Some z) f y e = (z, refl, e)

-- the same, where one was made of it
made_of : {A B : Type 0} (x : Option A) (f : A → B) (y : B) → option_map f x ≡ Some y → (z : A) × (x ≡ Some z) × (f z ≡ y)
made_of None f y e = clash (cc)
made_of (Some z) f y e = (z, refl, cc)

-- every operand has what was gathered
gave : {V A : Type 0} (has : Operand V → Option A) (ops : List (Operand V)) (list : List A) → gather has ops ≡ Some list → (i : ℕ) (o : Operand V)
    → operand_at ops i ≡ Some o → (x : A) × (has o ≡ Some x)
gave has [] list e i o g = clash (cc)
gave {A = A} has (y ∷ rest) list e zero o g =
    let z = there (has y) (λ x. option_map (λ more. x ∷ more) (gather has rest)) list e in
    let q : y ≡ o = cc in
    (z.0, rw (← q) z.1)
gave has (y ∷ rest) list e (suc i) o g =
    let z = there (has y) (λ x. option_map (λ more. x ∷ more) (gather has rest)) list e in
    let r = made_of (gather has rest) (λ more. z.0 ∷ more) list z.2 in
    gave has rest r.0 r.1 i o g

-- an operand whose expected value is wanted has one
expects : {V : Type 0} (o : Operand V) (w : Expected V) → wanted o ≡ Some w → (x : V) × (o.expected ≡ Some x)
expects o w e = let z = made_of o.expected (λ v. record { location = o.location; value = v }) w e in (z.0, z.1)

-- what holds of every single operand holds of operands that are one
alone : {V : Type 0} (P : List (Operand V) → Type 0) → ((o : Operand V) → P (o ∷ [])) → (ops : List (Operand V)) → eqb (length ops) 1 ≡ true → P ops
alone P h [] e = absurd (omega (arith, eqb-true 0 1 e))
alone P h (o ∷ []) e = h o
alone P h (o ∷ x ∷ rest) e = absurd (omega (arith, eqb-true (suc (suc (length rest))) 1 e))

-- the row of an operand; any value stands for those that it has not
abbrev or_else : {V : Type 0} → V → Option V → V
or_else any None = any
or_else any (Some x) = x

abbrev row_of : {V : Type 0} → V → Option (Operand V) → Row V
row_of any None = record { location = 0; expected = any; first = any; second = any; id_first = id_cell 0 0; id_second = id_cell 0 0 }
row_of any (Some o) = record {
  location = o.location;
  expected = or_else any o.expected;
  first = any;
  second = any;
  id_first = Id o.first_id;
  id_second = Id o.second_id;
}

module _ {V : Type 0} (any : V) (kind : OperationKind) (ops : List (Operand V)) where
  abbrev rows_of : Rows V
  rows_of i = row_of any (operand_at ops (snapshot_from kind + i))

  fit : (k : ℕ) → length ops ≡ snapshot_from kind + k
      → ((i : ℕ) (o : Operand V) → operand_at ops (snapshot_from kind + i) ≡ Some o → kind ≡ Kcss → (x : V) × (o.expected ≡ Some x)) → Fits kind k 0 0 rows_of ops
  fit k count h = record {
    count = count;
    each = λ i o e. rw e (record {
      location = refl;
      expected = λ q. (let z = h i o e q in rw z.1 refl);
      first_id = refl;
      second_id = refl;
      first = λ q. absurd (omega arith);
      second = λ q. absurd (omega arith);
    });
  }

module _ {V : Type 0} (any : V) (t n b m c : ℕ) where
  -- the relation's Start and the phase that the code's state shows after it
  abbrev Begun : maybe.Option ℕ → OperationKind → List (Operand V) → Option V → Request V → Type 0
  Begun l kind ops new q =
      (ph : relation.Phase V) × Begins t (proc n l b resting) q (proc n (link_at_start kind l) t ph)
      × Shows (runs kind ops new (first_phase kind) m c false) (link_at_start kind l) ph

  -- what was asked is known
  as_asked : (l : maybe.Option ℕ) (kind : OperationKind) (ops : List (Operand V)) (new : Option V) (q known : Request V) (asked : Option (Request V))
      → asked ≡ Some q → asked ≡ Some known → (Allowed (proc n l b resting) known → Begun l kind ops new known) → Allowed (proc n l b resting) q → Begun l kind ops new q
  as_asked l kind ops new q known asked e g h = let s : known ≡ q = cc in subst (λ (q : Request V). Allowed (proc n l b resting) q → Begun l kind ops new q) s h

  module _ (l : maybe.Option ℕ) (o : Operand V) (new : Option V) (q : Request V) (a : Allowed (proc n l b resting) q) where
    read_begins : request_of Read (o ∷ []) new ≡ Some q → Begun l Read (o ∷ []) new q
    read_begins e = as_asked l Read (o ∷ []) new q _ _ e refl (λ _. (_, begins_read _, shows_read)) a

    ll_begins : request_of Ll (o ∷ []) new ≡ Some q → Begun l Ll (o ∷ []) new q
    ll_begins e = as_asked l Ll (o ∷ []) new q _ _ e refl (λ a. rw a.1 (_, begins_ll _, shows_link links_ll at_attempt)) a

    sc_begins : request_of Sc (o ∷ []) new ≡ Some q → Begun l Sc (o ∷ []) new q
    sc_begins e =
        let z = made_of new (λ u. sc o.location u) q e in
        rw z.1 (as_asked l Sc (o ∷ []) (Some z.0) q _ _ (ap (λ (r : Request V). Some r) z.2) refl (λ a. rw a.1 (_, begins_sc _ _, shows_sc)) a)

    snapshot_begins : (rest : List (Operand V)) → request_of Snapshot (o ∷ rest) new ≡ Some q → Begun l Snapshot (o ∷ rest) new q
    snapshot_begins rest e =
        let fits = fit any Snapshot (o ∷ rest) (suc (length rest)) (omega arith) (λ _ _ _ q. clash (cc)) in
        as_asked l Snapshot (o ∷ rest) new q _ _ e (asked_snapshot (o ∷ rest) new (omega arith) fits)
        (λ a. (_, begins_snapshot _ _, shows_collect 0 0 collects_snapshot fits at_s6 (omega arith) refl)) a

    kcss_begins : (rest : List (Operand V)) → request_of Kcss (o ∷ rest) new ≡ Some q → Begun l Kcss (o ∷ rest) new q
    kcss_begins rest e =
        let z = there (wanted o) (λ w. option_and_then (λ more. option_map (λ u. kcss w more u) new) (all_wanted rest)) q e in
        let x = expects o z.0 z.1 in
        let r = there (all_wanted rest) (λ more. option_map (λ u. kcss z.0 more u) new) q z.2 in
        let u = made_of new (λ u. kcss z.0 r.0 u) q r.2 in
        let fits = fit any Kcss (o ∷ rest) (length rest) (omega arith) (λ i y g _. (
        let s : 1 + i ≡ suc i = omega arith in
        let w = gave wanted rest r.0 r.1 i y (rw s at g) in expects y w.0 w.1)) in
        rw u.1 (as_asked l Kcss (o ∷ rest) (Some u.0) q _ _ e (ap (request_of Kcss (o ∷ rest)) u.1 ∙ asked_kcss x.1 fits)
        (λ a. rw a.1 (_, begins_kcss _ _ _ _ _, shows_link (links_kcss x.1 fits) at_attempt)) a)

  starts : (l : maybe.Option ℕ) (kind : OperationKind) (ops : List (Operand V)) (new : Option V) (q : Request V) → counted kind (length ops) ≡ true
      → request_of kind ops new ≡ Some q → Allowed (proc n l b resting) q → Begun l kind ops new q
  starts l Read ops new q count e a = alone (λ ops. request_of Read ops new ≡ Some q → Begun l Read ops new q) (λ o. read_begins l o new q a) ops count e
  starts l Ll ops new q count e a = alone (λ ops. request_of Ll ops new ≡ Some q → Begun l Ll ops new q) (λ o. ll_begins l o new q a) ops count e
  starts l Sc ops new q count e a = alone (λ ops. request_of Sc ops new ≡ Some q → Begun l Sc ops new q) (λ o. sc_begins l o new q a) ops count e
  starts l Snapshot [] new q count e a = clash (cc)
  starts l Snapshot (o ∷ rest) new q count e a = snapshot_begins l o new q a rest e
  starts l Kcss [] new q count e a = clash (cc)
  starts l Kcss (o ∷ rest) new q count e a = kcss_begins l o new q a rest e

pub starts_begin : {V : Type 0} → StartsBegin {V = V} Shows
starts_begin any t n b m c = starts any t n b m c
