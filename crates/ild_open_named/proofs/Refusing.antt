-- A block that is refused is none of a root that is described, nor of a value that stands.
use Rattle.std.proofs.Common.{◌≡◌, ℕ, ◌≤◌, List, Option, Some, None, sym, ◌∙◌, subst, inl, inr}
use Rattle.std.proofs.lemmas.Bool.{false≢true}
use Rattle.std.proofs.lemmas.Option.{none-some}
use Rattle.ild_cbor.proofs.Blocks.{block_again}
use Rattle.ild_cbor.specs.declared.why.BlockWhy.{BlockWhy}
use Rattle.ild_cbor.specs.declared.why.BlockWhy.TheVariants as B
use Rattle.ild_cbor.specs.declared.why.Why.{Why}
use Rattle.ild_data.specs.Data.{Data, text}
use Rattle.ild_data.specs.Spell.{id_of, spell}
use Rattle.ild_edges.specs.Store.{block_at}
use Rattle.ild_edges.specs.Told.{IfTold}
use Rattle.ild_named.specs.Named.{named_data, schema_block}
use Rattle.ild_open_parts.proofs.Breaking.{rose_later}
use Rattle.ild_schema.specs.Clear.{IsSafe}
use Rattle.ild_schema.specs.Legible.{IsLegible}
use Rattle.ild_schema.specs.Slots.{plainly}
use Rattle.ild_schema.specs.Value.{Value}
use Rattle.ild_schema.specs.declared.number.TypeNo.{TypeNo}
use Rattle.ild_schema.specs.declared.row.Row.{Row}
use Rattle.ild_typed.proofs.Fronting.{values_fronts}
use Rattle.ild_typed.proofs.WalkSound.{refused_sound}
use Rattle.ild_typed.specs.Schema.{IsSchema}
use Rattle.ild_view_named.specs.NamedDocs.{IsMisnamedBlock, IsNamedShape}
use Rattle.ild_open_named.specs.Broken.{IsNoText, IsUndescribed, IsWrongSchema, IsWrongUnder}
use Rattle.ild_open_named.specs.Described.{HoldsData, IsDescribed}
use Rattle.ild_open_named.specs.Opened.{StandsNamed}
use Rattle.ild_open_named.proofs.Naming.{held_block, link_same, not_misnamed, not_no_text, standing_described, value_held}

pub some_told : (o : Option (List (List ℕ))) (held : List (List ℕ)) (P : List (List ℕ) → Type 0) → o ≡ Some held → IfTold o P → P held
some_told o held P is x = subst (λ k. IfTold k P) is x

-- ---- a block of the form that is asked for

module _ (Wrong : List ℕ → Why → Type 0) (told : Option (List (List ℕ))) (held : List (List ℕ)) (is : told ≡ Some held) (id : List ℕ) (t : Data) (here : HoldsData held id t)
    (right : (b : List ℕ) (why : Why) → block_at held id ≡ Some b → Wrong b why → ⊥) where
  pub not_wrong : (before now : ℕ) (why : BlockWhy) → IsWrongUnder Wrong told before now id why → ⊥
  not_wrong before now B.Missing x = none-some (spell t) (sym (some_told told held (λ blocks. block_at blocks id ≡ None) is x.0) ∙ here.there)
  not_wrong before now (B.Cbor fault) x =
      let there = some_told told held (λ blocks. block_at blocks id ≡ Some x.0) is x.1.held in
      none-some fault (sym (block_again x.0 t (held_block held id t here x.0 there)) ∙ x.2)
  not_wrong before now (B.Shape why) x = right x.0 why (some_told told held (λ blocks. block_at blocks id ≡ Some x.0) is x.1.held) x.2

-- from an earlier moment on
pub wrong_earlier : (Wrong : List ℕ → Why → Type 0) (told was : Option (List (List ℕ))) (earlier before now : ℕ) (id : List ℕ) (why : BlockWhy) → was ≡ told → earlier ≤ before
    → IsWrongUnder Wrong was before now id why → IsWrongUnder Wrong told earlier now id why
wrong_earlier Wrong told was earlier before now id why same le x = by why (subst (λ (o : Option (List (List ℕ))). IsWrongUnder Wrong o before now id why) same x)
  where
    by : (why : BlockWhy) → IsWrongUnder Wrong told before now id why → IsWrongUnder Wrong told earlier now id why
    by B.Missing y = (y.0, rose_later earlier before now le y.1)
    by (B.Cbor fault) y = y
    by (B.Shape cause) y = y

-- ---- a root that is described

module _ (told : Option (List (List ℕ))) (held : List (List ℕ)) (told_is : told ≡ Some held) (id name source : List ℕ) (is : IsDescribed held id name source) where
  pub schema_not_wrong : (before now : ℕ) (at : List ℕ) (why : BlockWhy) → IsWrongSchema told before now id at why → ⊥
  schema_not_wrong before now at why x =
      let there = some_told told held (λ blocks. block_at blocks id ≡ Some x.linked.block) told_is x.linked.at.held in
      let same : at ≡ id_of (schema_block source) = link_same held id name source is x.linked.block x.linked.name at x.linked.tree there x.linked.names in
      not_wrong IsNoText told held told_is (id_of (schema_block source)) (text source) is.schema (not_no_text held id name source is) before now why
      (subst (λ (k : List ℕ). IsWrongUnder IsNoText told before now k why) same x.wrong)

  pub not_undescribed : (before now : ℕ) (at : List ℕ) (why : BlockWhy) → IsUndescribed told before now id at why → ⊥
  not_undescribed before now at why (inl x) =
      not_wrong IsMisnamedBlock told held told_is id (named_data name (id_of (schema_block source)) is.tree) is.root (not_misnamed held id name source is) before now why x.1
  not_undescribed before now at why (inr x) = schema_not_wrong before now at why x

-- ---- a value that stands

module _ (rows : List Row) (schema : IsSchema rows) (legible : IsLegible rows) (h : List ℕ → List ℕ) (ty : TypeNo) (id : List ℕ) (held : List (List ℕ)) (name source : List ℕ) (v : Value)
    (st : StandsNamed h rows ty id held name source v) where
  safe : IsSafe rows (plainly ty)
  safe = λ e. absurd (false≢true e)

  abbrev described : IsDescribed held id name source
  described = standing_described rows schema h ty id held name source v st

  no_shape : (b : List ℕ) (why : Why) → block_at held id ≡ Some b → IsNamedShape rows ty b why → ⊥
  no_shape b why there (inl x) = not_misnamed held id name source described b why there x
  no_shape b why there (inr x) =
      let has = value_held rows schema h ty id held name source v st b x.name x.schema x.tree there x.root in
      let y = values_fronts h rows schema 95 (plainly ty) v x.tree has.fits has.tree in
      refused_sound rows legible.clear legible.delims 95 0 (plainly ty) safe x.tree x.refusal.refusal x.refusal.refused (y.0, y.1.fits, y.1.tree)

  pub root_not_wrong : (told : Option (List (List ℕ))) → told ≡ Some held → (before now : ℕ) (why : BlockWhy) → IsWrongUnder (IsNamedShape rows ty) told before now id why → ⊥
  root_not_wrong told is before now why x =
      not_wrong (IsNamedShape rows ty) told held is id (named_data name (id_of (schema_block source)) described.tree) described.root no_shape before now why x
