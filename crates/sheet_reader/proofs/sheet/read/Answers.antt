use Rattle.std.proofs.Common.{◌≡◌, ℕ, List, Ok, Option, is_ok, rules, arith, sym, ap, ◌∙◌}
use Rattle.sheet_format.specs.declared.header.Header.{Header}
use Rattle.sheet_format.specs.Parts.{parts_of}
use Rattle.sheet_format.specs.Reading.{Keeps, header_answer, value_answer, values_answer, read_answer, body_answer}
use Rattle.std.proofs.lemmas.Grind.{common_steps}
use Rattle.sheet_format.proofs.Fields.{all_below}
use Rattle.sheet_format.proofs.Headers.{some_location}
use Rattle.sheet_format.proofs.WriteSheet.{read_then_write}
use Rattle.sheet_reader.proofs.Row.{first_of}
use Rattle.sheet_reader.proofs.sheet.read.Goals as goal

-- once the values were read, there is something to keep
keeps : {V : Type 0} (decode : ℕ → Option V) (bytes : List ℕ) (number : ℕ) (h : Header) (vs : List V) → header_answer bytes number ≡ Ok h
    → values_answer decode bytes 24 h.locations ≡ Ok vs → Keeps decode bytes number
keeps decode bytes number h vs header values = record {
  header = ap is_ok header;
  value = first_of (value_answer decode bytes) 8 24 h.locations vs (some_location bytes number h header) values;
}

pub returns-in_err-operations-clause-memory : goal.returns-in_err-operations-clause-memory
returns-in_err-operations-clause-memory g c =
    let header : header_answer c.args.bytes.now g.V.ValueKind.KIND ≡ Ok c.in_ok-header.header = search rules in
    let kept = keeps g.V.ValueKind.decoded c.args.bytes.now g.V.ValueKind.KIND c.in_ok-header.header _ header
    (ap (values_answer g.V.ValueKind.decoded c.args.bytes.now 24) (sym c.from-locations.ensures) ∙ c.in_ok-initial.ensures.answer) in
    search (rules, kept)

pub returns-in_err-script-clause-memory : goal.returns-in_err-script-clause-memory
returns-in_err-script-clause-memory g c =
    let header : header_answer c.args.bytes.now g.V.ValueKind.KIND ≡ Ok c.in_ok-header.header = search rules in
    let kept = keeps g.V.ValueKind.decoded c.args.bytes.now g.V.ValueKind.KIND c.in_ok-header.header _ header
    (ap (values_answer g.V.ValueKind.decoded c.args.bytes.now 24) (sym c.from-locations.ensures) ∙ c.in_ok-initial.ensures.answer) in
    search (rules, kept)

pub returns-clause-returns : goal.returns-clause-returns
unfolding read_answer body_answer
returns-clause-returns g c =
    let bytes = c.args.bytes.now in
    let read : read_answer g.V.ValueKind.decoded bytes g.V.ValueKind.KIND
    ≡ Ok (parts_of (record { initial = c.in_ok-initial.initial; processes = c.in_ok-header.header.processes; operations = c.in_ok-operations.operations; script = c.in_ok-script.script })) = grind (arith, common_steps) in
    read_then_write g.V.ValueKind.coded g.V.ValueKind.decoded g.V.ValueKind.KIND g.met.V.ValueKind.kept bytes _ (all_below bytes c.type_inv.bytes) read
