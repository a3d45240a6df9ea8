-- The entries of a map as they are handed out, one step at a time.
use Rattle.std.proofs.Common.{◌≡◌, ℕ, List, [], ◌∷◌, true, false, Some, None, refl, sym, ap, subst}
use Rattle.std.specs.Borrow.{Bor}
use Rattle.std.proofs.lemmas.Option.{none-some, same_Some}
use Rattle.ild_data.specs.Data as T
use Rattle.ild_data.specs.Data.{Data}
use Rattle.ild_data.specs.Key.{Rises}
use Rattle.ild_cbor.specs.declared.node.Node.{Node}
use Rattle.ild_cbor.specs.Nodes.{HasData}
use Rattle.ild_schema.specs.declared.def.KindWord.TheVariants as K
use Rattle.ild_schema.specs.DataKinds.{same_kind}
use Rattle.ild_typed.specs.Kinds.{kind_word_of}
use Rattle.ild_typed.specs.Strings.{members_in}
use Rattle.ild_typed.specs.WhyLaws.{KeysRise}
use Rattle.ild_layer_piece.specs.declared.walk.MapEntries.{MapEntries}
use Rattle.ild_layer_piece.specs.Entries.{EntriesGive, HasLeft, Maps}

-- the entries that are there
pub record Walked (t : Data) (s : MapEntries) : Type 0 where
  pub entries : List (List ℕ × Data)
  pub is : members_in t ≡ Some entries
  pub left : HasLeft s entries

pub walked : (t : Data) (s : MapEntries) → Maps (members_in t) (Some s) → Walked t s
walked (T.map ms) s h = record { entries = T.members_list ms; is = refl; left = h }
walked t s h = absurd h

pub not_walked : (t : Data) → Maps (members_in t) None → members_in t ≡ None
not_walked (T.map ms) h = absurd h
not_walked t h = refl

pub map_kind : (t : Data) (es : List (List ℕ × Data)) → members_in t ≡ Some es → same_kind K.Map (kind_word_of t) ≡ true
map_kind (T.map ms) es e = refl
map_kind t es e = absurd (none-some es e)

pub other_kind : (t : Data) → members_in t ≡ None → same_kind K.Map (kind_word_of t) ≡ false
other_kind (T.map ms) e = absurd (none-some (T.members_list ms) (sym e))
other_kind t e = refl

-- no entry is left
pub none_left : (s after : MapEntries) (es : List (List ℕ × Data)) → EntriesGive s None after → HasLeft s es → es ≡ []
none_left s after [] gives left = refl
none_left s after (e ∷ es) gives left = absurd (gives (e ∷ es) left)

-- a first entry, and the others
pub record FirstLeft (x : Bor (List ℕ) × Node) (after : MapEntries) (es : List (List ℕ × Data)) : Type 0 where
  pub value : Data
  pub rest : List (List ℕ × Data)
  pub is : es ≡ (x.0.now, value) ∷ rest
  pub stands : HasData x.1 value
  pub left : HasLeft after rest

pub first_left : (s after : MapEntries) (x : Bor (List ℕ) × Node) (es : List (List ℕ × Data)) → EntriesGive s (Some x) after → HasLeft s es → FirstLeft x after es
first_left s after x [] gives left = absurd (gives [] left)
first_left s after x (e ∷ es) gives left =
    let h = gives (e ∷ es) left in
    record { value = e.1; rest = es; is = ap (λ k. (k, e.1) ∷ es) (sym h.key_is); stands = h.stands; left = h.left }

pub members_rise : (t : Data) (es : List (List ℕ × Data)) → members_in t ≡ Some es → KeysRise t → Rises es
members_rise (T.map ms) es e up = subst Rises (same_Some (T.members_list ms) es e) up
members_rise t es e up = absurd (none-some es e)
