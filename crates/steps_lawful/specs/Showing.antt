-- Which phase of the relation each state of the code stands for.
use Rattle.std.specs.Prelude.{◌≡◌, ℕ, zero, suc, ◌+◌, ◌<◌, Bool, true, false, List, [], ◌∷◌, length, Some, Option}
use Rattle.std.proofs.Math.Option as maybe
use Rattle.memory.specs.declared.cell.Cell.TheVariants.{Value, Id}
use Rattle.operation.specs.declared.kind.OperationKind.{OperationKind}
use Rattle.operation.specs.declared.kind.OperationKind.TheVariants.{Read, Ll, Sc, Snapshot, Kcss}
use Rattle.phases.specs.declared.phase.ReadPhase.{ReadPhase}
use Rattle.phases.specs.declared.phase.ReadPhase.TheVariants.{Look, LookAgain, Fetch, Reset}
use Rattle.phases.specs.declared.phase.Phase.{Phase}
use Rattle.phases.specs.declared.phase.Phase.TheVariants.{Reading, Attempt, Linking, Save, Mark, Note}
use Rattle.phases.specs.declared.phase.Phase.TheVariants.{FirstId, FirstCollect, SecondCollect, SecondId, Swap}
use Rattle.phases.specs.declared.records.Operand.{Operand}
use Rattle.lines.specs.Suiting.{snapshot_from}
use Rattle.lines.specs.Comparing.{operand_at}
use Rattle.protocol.specs.Phases as relation
use Rattle.protocol.specs.Phases.{Row, Rows, Job, Purpose}
use Rattle.protocol.specs.Phases.ReadPhase.{looks, looks_again, fetches, resets}
use Rattle.protocol.specs.Phases.Job.{for_ll, for_kcss}
use Rattle.protocol.specs.Phases.Purpose.{solo, inside}
use Rattle.protocol.specs.Phases.Phase.{reading, attempt, attempt_again, linking, to_save, to_mark, to_note}
use Rattle.protocol.specs.Phases.Phase.{swap_sc, first_id, first_collect, second_collect, second_id, swap}
use Rattle.line_views.specs.View.{Running}
use Rattle.line_views.specs.View.Running.{runs}

-- The line that a READ is to make, with the id and the value that it keeps.
abbrev pub read_phase : {V : Type 0} → ReadPhase V → relation.ReadPhase V
read_phase Look = looks
read_phase LookAgain = looks_again
read_phase (Fetch kept) = fetches kept
read_phase (Reset kept saved) = resets kept saved

-- An operand of the code and row i of the relation are the same in location, in both ids and, in a KCSS, in expected value;
-- in the value of the first collect if i is below a, and in that of the second if i is below b.
pub record Agree {V : Type 0} (kind : OperationKind) (a b i : ℕ) (o : Operand V) (row : Row V) : Type 0 where
  pub location : row.location ≡ o.location
  pub expected : kind ≡ Kcss → o.expected ≡ Some row.expected
  pub first_id : row.id_first ≡ Id o.first_id
  pub second_id : row.id_second ≡ Id o.second_id
  pub first : i < a → o.first ≡ Some row.first
  pub second : i < b → o.second ≡ Some row.second

-- The operands that the SNAPSHOT of an operation collects, all of a SNAPSHOT's and all but the first of a KCSS's, are k rows
-- in turn. The first collect has found the values of a of them, the second those of b.
pub record Fits {V : Type 0} (kind : OperationKind) (k a b : ℕ) (rows : Rows V) (operands : List (Operand V))
    : Type 0 where
  pub count : length operands ≡ snapshot_from kind + k
  pub each : (i : ℕ) (o : Operand V) → operand_at operands (snapshot_from kind + i) ≡ Some o → Agree kind a b i o (rows i)

-- What the LL of an operation is made for: itself; or a KCSS of the first operand's location and expected value and the new
-- value, whose other operands are k rows.
pub data Links {V : Type 0} : OperationKind → List (Operand V) → Option V → Job V → Type 0 where
  links_ll : {o : Operand V} {new : Option V} → Links Ll (o ∷ []) new (for_ll o.location)
  links_kcss : {o : Operand V} {rest : List (Operand V)} {x u : V} {rows : Rows V} {k : ℕ}
      → o.expected ≡ Some x → Fits Kcss k 0 0 rows (o ∷ rest)
      → Links Kcss (o ∷ rest) (Some u) (for_kcss o.location x u rows k)

-- What the SNAPSHOT of an operation is made for: itself, with any link; or a KCSS, with none, of the first operand's location
-- and expected value and the new value, whose LL has found the first operand's value and made its 8 at step m.
pub data Collects {V : Type 0}
    : OperationKind → List (Operand V) → Option V → (m : ℕ) → maybe.Option ℕ → Purpose V → Type 0 where
  collects_snapshot : {operands : List (Operand V)} {new : Option V} {m : ℕ} {l : maybe.Option ℕ}
      → Collects Snapshot operands new m l solo
  collects_kcss : {o : Operand V} {rest : List (Operand V)} {x u v : V} {m : ℕ} → o.expected ≡ Some x → o.first ≡ Some v
      → Collects Kcss (o ∷ rest) (Some u) m maybe.none (inside o.location x u v m)

-- The phases of an LL made for J, with no link: m is the step of its last 8 that said yes, f whether the last line was an 8
-- that said no.
pub data LinkPhase {V : Type 0} (J : Job V) : Phase V → (m : ℕ) (f : Bool) → relation.Phase V → Type 0 where
  -- a fresh attempt, from the start or after an 11 that said no
  at_attempt : {m : ℕ} → LinkPhase J Attempt m false (attempt J)
  -- a fresh attempt after an 8 that said no
  at_again : {m : ℕ} → LinkPhase J Attempt m true (attempt_again J)
  -- the rest of its READ
  at_read : {s : ReadPhase V} {m : ℕ} {f : Bool} → LinkPhase J (Linking s) m f (linking J (read_phase s))
  -- 7, 8 and 9, with the value that was read; 9 knows the step of its 8
  at_7 : {v : V} {m : ℕ} {f : Bool} → LinkPhase J (Save (Value v)) m f (to_save J v)
  at_8 : {v : V} {m : ℕ} {f : Bool} → LinkPhase J (Mark (Value v)) m f (to_mark J v)
  at_9 : {v : V} {m : ℕ} {f : Bool} → LinkPhase J (Note (Value v)) m f (to_note J v m)

-- The phases of a SNAPSHOT made for F at operand j, which is row i of k: the first collect has found the values of a rows,
-- the second those of b; c is the step that ended the last first collect.
pub data CollectPhase {V : Type 0} (F : Purpose V) (rows : Rows V) (k i j c : ℕ)
    : Phase V → (a b : ℕ) → relation.Phase V → Type 0 where
  -- S6: none yet
  at_s6 : CollectPhase F rows k i j c (FirstId j) 0 0 (first_id F rows k i)
  -- the first collect: those of the rows before
  at_first : {s : ReadPhase V}
      → CollectPhase F rows k i j c (FirstCollect j s) i 0 (first_collect F rows k i (read_phase s))
  -- the second collect: all of the first, and those of the rows before
  at_second : {s : ReadPhase V}
      → CollectPhase F rows k i j c (SecondCollect j s) k i (second_collect F rows k c i (read_phase s))
  -- S9: all of both
  at_s9 : CollectPhase F rows k i j c (SecondId j) k k (second_id F rows k c i)

-- The step that ended the last first collect of a KCSS with k other operands: c, or 0 if it has none to collect.
abbrev pub collected_at : (k c : ℕ) → ℕ
collected_at zero c = 0
collected_at (suc k) c = c

-- A state of the code at a link, and the phase that it stands for: the running operation has marked at step m, ended its
-- last first collect at step c, and f tells whether its last line was an 8 that said no.
pub data Shows {V : Type 0} : Running V → maybe.Option ℕ → relation.Phase V → Type 0 where
  -- a READ, with any link
  shows_read : {o : Operand V} {new : Option V} {s : ReadPhase V} {m c : ℕ} {f : Bool} {l : maybe.Option ℕ}
      → Shows (runs Read (o ∷ []) new (Reading s) m c f) l (reading o.location (read_phase s))
  -- an LL, alone or of a KCSS
  shows_link : {kind : OperationKind} {operands : List (Operand V)} {new : Option V} {J : Job V} {phase : Phase V}
      {m c : ℕ} {f : Bool} {ph : relation.Phase V}
      → Links kind operands new J → LinkPhase J phase m f ph → Shows (runs kind operands new phase m c f) maybe.none ph
  -- the 11 of an SC; its link was given up at the start
  shows_sc : {o : Operand V} {u : V} {m c : ℕ} {f : Bool}
      → Shows (runs Sc (o ∷ []) (Some u) Swap m c f) maybe.none (swap_sc o.location u)
  -- a SNAPSHOT, alone or of a KCSS
  shows_collect : {kind : OperationKind} {operands : List (Operand V)} {new : Option V} {F : Purpose V} {rows : Rows V}
      {k a b : ℕ} {phase : Phase V} {m c : ℕ} {f : Bool} {l : maybe.Option ℕ} {ph : relation.Phase V} (i j : ℕ)
      → Collects kind operands new m l F → Fits kind k a b rows operands → CollectPhase F rows k i j c phase a b ph
      → i < k → j ≡ snapshot_from kind + i → Shows (runs kind operands new phase m c f) l ph
  -- the 11 of a KCSS, with the value of its LL and all values of its SNAPSHOT
  shows_swap : {o : Operand V} {rest : List (Operand V)} {x u v : V} {rows : Rows V} {k m c g : ℕ} {f : Bool}
      → o.expected ≡ Some x → o.first ≡ Some v → Fits Kcss k k k rows (o ∷ rest) → g ≡ collected_at k c
      → Shows (runs Kcss (o ∷ rest) (Some u) Swap m c f) maybe.none (swap o.location x u v m rows k g)
