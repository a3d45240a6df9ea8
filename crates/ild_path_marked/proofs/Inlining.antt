-- The entries of a member with that of the discriminant among them.
use Rattle.std.proofs.Common.{◌≡◌, ℕ, ◌+◌, ◌-◌, ◌^◌, true, cond, List, [], ◌++◌, Option, Some, None, refl, sym, ap, subst, ◌∙◌, append-nil}
use Rattle.std.specs.Prelude.{Result, is_none, min}
use Rattle.ild_cbor.specs.declared.kind.Kind.TheVariants as K
use Rattle.ild_cbor.specs.declared.node.Node.{Node}
use Rattle.ild_cbor.specs.Nodes.{HasData}
use Rattle.ild_cbor.specs.Scalar.{kind_of, count_of}
use Rattle.ild_cbor.specs.Span.{entry_of}
use Rattle.ild_splice_changes.specs.TreeChange.{insert_entry, change_here}
use Rattle.ild_data.specs.Data as T
use Rattle.ild_data.specs.Data.{Data}
use Rattle.ild_data.specs.Key.{put, value_at}
use Rattle.ild_data.specs.Spell.{head, spell_text}
use Rattle.ild_path_marked.specs.inside.Parts.{has_place}
use Rattle.ild_path_marked.specs.Tells.{Tells, Writes}
use Rattle.ild_schema.specs.declared.def.UnionForm.TheVariants as F
use Rattle.ild_splice.specs.declared.error.SpliceErr.{SpliceErr}
use Rattle.ild_splice.specs.Around.{AreAroundKey}
use Rattle.ild_splice.proofs.Mapped.{comes}
use Rattle.ild_typed.specs.Composed.{marked_form}
use Rattle.ild_typed.specs.Strings.{map_data}

none_if : (o : Option Data) → is_none o ≡ true → o ≡ None
none_if None e = refl
none_if (Some d) e = absurd cc

-- a map without the discriminant's key, where the union's item is there
record IsOpen (key name : List ℕ) (d : Data) : Type 0 where
  kind : kind_of d ≡ K.Map
  absent : entry_of d key ≡ None
  made : marked_form (F.Inline key) d name ≡ Some (change_here (insert_entry key (T.text name)) d)

opened : (key name : List ℕ) (d : Data) → has_place key d ≡ true → IsOpen key name d
opened key name T.null e = absurd cc
opened key name (T.boolean b) e = absurd cc
opened key name (T.integer n) e = absurd cc
opened key name (T.text s) e = absurd cc
opened key name (T.bytes s) e = absurd cc
opened key name (T.list ds) e = absurd cc
opened key name (T.map ms) e = record {
  kind = refl;
  absent = none_if (value_at key (T.members_list ms)) e;
  made = ap (λ b. cond b (Some (map_data (put key (T.text name) (T.members_list ms)))) None) e;
}
opened key name (T.link s) e = absurd cc

pub inlined_tells : (n : Node) (d : Data) (told count : ℕ) (before after key name : List ℕ) (r : Result (Option (List ℕ)) SpliceErr) → HasData n d → has_place key d ≡ true
    → ((k : ℕ) → count_of d ≡ Some k → told ≡ k) → count ≡ min (told + 1) (2 ^ 64 - 1) → ((ms : T.Members) → HasData n (T.map ms) → AreAroundKey before after key (T.members_list ms))
    → Writes (head 5 count ++ (before ++ (spell_text key ++ (spell_text name ++ (after ++ []))))) r → Tells (marked_form (F.Inline key) d name) r
inlined_tells n d told count before after key name r stands place tells counted around made =
    let o = opened key name d place in
    let bytes = ap (λ xs. head 5 count ++ (before ++ (spell_text key ++ (spell_text name ++ xs)))) (append-nil after)
    ∙ comes n d (T.text name) told count before after key (spell_text name) stands o.kind o.absent tells counted around refl in
    subst (λ x. Tells x r) (sym o.made) (subst (λ xs. Writes xs r) bytes made)
