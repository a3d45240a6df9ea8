use Rattle.std.proofs.Common.{◌≡◌, true, false, Some, None, cond, sym, ◌∙◌, ap, subst}
use Rattle.std.proofs.lemmas.Option.{same_Some, none-some}
use Rattle.ild_struct.proofs.Fielding.{found_of}
use Rattle.ild_data.specs.Data as T
use Rattle.ild_data.specs.Key.{same_text}
use Rattle.ild_layer_piece.specs.Entries.{Found}
use Rattle.ild_typed.specs.Strings.{pair_data}
use Rattle.ild_view_entries.proofs.entry.value_in.Goals as goal

pub returns-then-eq : goal.returns-then-eq
returns-then-eq c = λ e stands.
    let first = c.in-Some.ensures (pair_data e) stands in
    let name : c.in-Some-text.name.now ≡ e.0 = same_Some c.in-Some-text.name.now e.0 (c.in-Some-text.ensures (T.text e.0) first.stands) in
    let is : same_text c.args.key.now e.0 ≡ true = ap (same_text c.args.key.now) (sym name) ∙ sym c.eq.ensures ∙ c.if-eq.true in
    subst (λ b. Found (cond b (Some e.1) None) c.item-then-eq.result) (sym is) (found_of c.args.item.now _ (Some e.1) c.item-then-eq.result (c.item-then-eq.ensures (pair_data e) stands))

pub returns-else-eq : goal.returns-else-eq
returns-else-eq c = λ e stands.
    let first = c.in-Some.ensures (pair_data e) stands in
    let name : c.in-Some-text.name.now ≡ e.0 = same_Some c.in-Some-text.name.now e.0 (c.in-Some-text.ensures (T.text e.0) first.stands) in
    let is : same_text c.args.key.now e.0 ≡ false = ap (same_text c.args.key.now) (sym name) ∙ sym c.eq.ensures ∙ c.if-eq.false in
    subst (λ b. Found (cond b (Some e.1) None) None) (sym is) tt

pub returns-in-None-text : goal.returns-in-None-text
returns-in-None-text c = λ e stands.
    let first = c.in-Some.ensures (pair_data e) stands in
    absurd (none-some e.0 (c.in-None-text.ensures (T.text e.0) first.stands))

pub returns-in-None : goal.returns-in-None
returns-in-None c = λ e stands. absurd (c.in-None.ensures (pair_data e) stands)
