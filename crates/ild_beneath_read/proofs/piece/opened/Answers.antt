use Rattle.std.proofs.Common.{◌≡◌, false, true, length, refl, sym, ap, ◌∙◌, subst}
use Rattle.ild_beneath.specs.Parts.{is_flat}
use Rattle.ild_schema.specs.Table.{IsWithin}
use Rattle.ild_schema.specs.declared.def.MapForm.{MapForm}
use Rattle.ild_schema.specs.declared.def.MapForm.TheVariants as MF
use Rattle.ild_schema.specs.declared.def.TypeDef.{TypeDef}
use Rattle.ild_schema.specs.declared.def.TypeDef.TheVariants as D
use Rattle.ild_beneath_read.specs.inside.Opened.{is_leaf}
use Rattle.ild_beneath_read.proofs.Opening.{form_is, hamt_opens, leaf_flat, leaf_opens, map_plain, members_are_in, other_opens, parts_open}
use Rattle.ild_beneath_read.proofs.piece.opened.Goals as goal

pub returns-then-is_leaf-clause-opens : goal.returns-then-is_leaf-clause-opens
returns-then-is_leaf-clause-opens c = λ t stands.
    let flat : is_flat t ≡ true = sym (leaf_flat t) ∙ ap is_leaf (sym (c.kind.ensures c.args.acc.now t stands)) ∙ sym c.is_leaf.ensures ∙ c.if-is_leaf.true in
    leaf_opens c.args.acc.now c.args.slot t flat

pub open_union-requires-clause-members : goal.open_union-requires-clause-members
open_union-requires-clause-members c = members_are_in c.args.acc.now c.in-Union.def (subst (IsWithin (length c.args.acc.now)) c.in-Union.is c.def.ensures.within)

pub returns-in-List-clause-opens : goal.returns-in-List-clause-opens
returns-in-List-clause-opens c = λ t stands.
    let flat : is_flat t ≡ false = sym (leaf_flat t) ∙ ap is_leaf (sym (c.kind.ensures c.args.acc.now t stands)) ∙ sym c.is_leaf.ensures ∙ c.if-is_leaf.false in
    parts_open c.args.acc.now c.args.slot t flat (D.List c.in-List.elem c.in-List.at) (form_is c.args.acc.now c.args.slot c.base-base.result.0 c.def.result.now (D.List c.in-List.elem c.in-List.at) c.base-base.ensures.same c.def.ensures.same c.in-List.is) (λ k. refl) c.open_list.result
    (c.open_list.ensures.parted c.args.acc.now c.in-List.at t stands)

pub returns-in-Hamt-clause-opens : goal.returns-in-Hamt-clause-opens
returns-in-Hamt-clause-opens c = λ t stands.
    let own : MapForm → TypeDef = λ f. D.Map c.in-Map.key c.in-Map.key_at c.in-Map.value c.in-Map.at f in
    let flat : is_flat t ≡ false = sym (leaf_flat t) ∙ ap is_leaf (sym (c.kind.ensures c.args.acc.now t stands)) ∙ sym c.is_leaf.ensures ∙ c.if-is_leaf.false in
    hamt_opens c.args.acc.now c.args.slot t flat c.in-Hamt.field-0 c.in-Map.key c.in-Map.key_at c.in-Map.value c.in-Map.at (form_is c.args.acc.now c.args.slot c.base-base.result.0 c.def.result.now (own (MF.Hamt c.in-Hamt.field-0)) c.base-base.ensures.same c.def.ensures.same (c.in-Map.is ∙ ap own c.in-Hamt.is)) c.open_root.result
    (c.open_root.ensures.root t stands)

pub returns-in_default-form : goal.returns-in_default-form
returns-in_default-form c = record {
  opens = λ t stands.
      let own : TypeDef = D.Map c.in-Map.key c.in-Map.key_at c.in-Map.value c.in-Map.at c.in-Map.form in
      let flat : is_flat t ≡ false = sym (leaf_flat t) ∙ ap is_leaf (sym (c.kind.ensures c.args.acc.now t stands)) ∙ sym c.is_leaf.ensures ∙ c.if-is_leaf.false in
      parts_open c.args.acc.now c.args.slot t flat own (form_is c.args.acc.now c.args.slot c.base-base.result.0 c.def.result.now (own) c.base-base.ensures.same c.def.ensures.same c.in-Map.is)
      (map_plain c.args.acc.now c.args.slot t c.in-Map.key c.in-Map.key_at c.in-Map.value c.in-Map.at c.in-Map.form c.in_default-form.not-Hamt) c.open_map.result (c.open_map.ensures.parted t stands);
  ready = c.open_map.ensures.ready;
}

pub returns-in-Struct-clause-opens : goal.returns-in-Struct-clause-opens
returns-in-Struct-clause-opens c = λ t stands.
    let flat : is_flat t ≡ false = sym (leaf_flat t) ∙ ap is_leaf (sym (c.kind.ensures c.args.acc.now t stands)) ∙ sym c.is_leaf.ensures ∙ c.if-is_leaf.false in
    parts_open c.args.acc.now c.args.slot t flat (D.Struct c.in-Struct.def) (form_is c.args.acc.now c.args.slot c.base-base.result.0 c.def.result.now (D.Struct c.in-Struct.def) c.base-base.ensures.same c.def.ensures.same c.in-Struct.is) (λ k. refl) c.open_struct.result
    (c.open_struct.ensures.parted t stands)

pub returns-in-Union-clause-opens : goal.returns-in-Union-clause-opens
returns-in-Union-clause-opens c = λ t stands.
    let flat : is_flat t ≡ false = sym (leaf_flat t) ∙ ap is_leaf (sym (c.kind.ensures c.args.acc.now t stands)) ∙ sym c.is_leaf.ensures ∙ c.if-is_leaf.false in
    parts_open c.args.acc.now c.args.slot t flat (D.Union c.in-Union.def) (form_is c.args.acc.now c.args.slot c.base-base.result.0 c.def.result.now (D.Union c.in-Union.def) c.base-base.ensures.same c.def.ensures.same c.in-Union.is) (λ k. refl) c.open_union.result
    (c.open_union.ensures.parted t stands)

pub returns-in_default : goal.returns-in_default
returns-in_default c = record {
  opens = λ t stands.
      let flat : is_flat t ≡ false = sym (leaf_flat t) ∙ ap is_leaf (sym (c.kind.ensures c.args.acc.now t stands)) ∙ sym c.is_leaf.ensures ∙ c.if-is_leaf.false in
      other_opens c.args.acc.now c.args.slot t flat c.def.result.now (form_is c.args.acc.now c.args.slot c.base-base.result.0 c.def.result.now (c.def.result.now) c.base-base.ensures.same c.def.ensures.same refl)
      (λ elem at e. c.in_default.not-List elem at e) (λ key key_at value at f e. c.in_default.not-Map key key_at value at f e) (λ x e. c.in_default.not-Struct x e) (λ x e. c.in_default.not-Union x e);
  ready = tt;
}
