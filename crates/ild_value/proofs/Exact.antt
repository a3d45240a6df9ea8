-- What is read is typed, and where a rule is told there is nothing to be read.
use Rattle.std.proofs.Common.{List, Result, Ok, Err, sym, ◌∙◌}
use Rattle.std.specs.Prelude.{IfErr}
use Rattle.std.proofs.lemmas.Option.{none-some}
use Rattle.ild_data.specs.Data.{Data}
use Rattle.ild_data.specs.Tree.{IsTree}
use Rattle.ild_schema.specs.declared.number.Slot.{Slot}
use Rattle.ild_schema.specs.declared.row.Row.{Row}
use Rattle.ild_schema.specs.Value.{Value}
use Rattle.ild_typed.specs.Schema.{IsSchema}
use Rattle.ild_value_meaning.specs.MeantLaws.{IsMeantTyped}
use Rattle.ild_value_meaning.proofs.KeyTests.{keys_are_tested}
use Rattle.ild_value_meaning.proofs.Meanings.{meant_is_read}
use Rattle.ild_value_meaning.proofs.MeantTyped.{meant_is_typed}
use Rattle.ild_value_meaning.proofs.Mismatched.{nothing_where_broken}
use Rattle.ild_value_meaning.proofs.Reading.{read_is_meant}
use Rattle.ild_value.specs.declared.fault.ShownErr.{ShownErr}
use Rattle.ild_value.specs.declared.fault.ShownErr.TheVariants as E
use Rattle.ild_value.specs.Readings.{Means, IsRefused, MeansNone, rule_of}
use Rattle.ild_value.specs.inside.Parts.{IsReadAs}

-- what is read is meant
pub read_means : (rows : List Row) (slot : Slot) (t : Data) (v : Value) → IsReadAs rows slot t v → Means rows slot t v
read_means rows slot t v r = record { meant = λ is_key tests. read_is_meant rows is_key slot t v (r.read is_key tests) }

pub typed : (rows : List Row) → IsSchema rows → (slot : Slot) (t : Data) (v : Value) → IsTree t → Means rows slot t v → IsMeantTyped rows slot v
typed rows schema slot t v tree m =
    let k = keys_are_tested rows schema in
    meant_is_typed rows k.0 schema k.1 slot t v tree (m.meant k.0 k.1)

pub none_meant : (rows : List Row) → IsSchema rows → (slot : Slot) (t : Data) (e : ShownErr) → IsTree t → IsRefused rows slot t e → MeansNone rows slot t e
none_meant rows schema slot t (E.Mismatch ty rule) tree b = record {
  none = λ is_key tests v m.
      let nothing = (nothing_where_broken rows is_key schema slot t tree).1 (ty, rule_of rule, b.told is_key tests) in
      none-some v (sym nothing ∙ meant_is_read rows is_key schema slot t v m);
}
none_meant rows schema slot t E.Memory tree h = tt

pub if_err : {A E : Type 0} (P Q : E → Type 0) → ((e : E) → P e → Q e) → (r : Result A E) → IfErr r P → IfErr r Q
if_err P Q more (Ok a) h = tt
if_err P Q more (Err e) h = more e h
