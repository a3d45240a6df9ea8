-- How deep data nest, part by part.
use Rattle.std.proofs.Common.{◌≡◌, ℕ, ◌+◌, ◌-◌, ◌<◌, ◌≤◌, List, [], Bool, true, false, Some, None, refl, sym, ◌∙◌, ap, subst, arith, inl}
use Rattle.std.specs.Prelude.{nat_le, max}
use Rattle.std.specs.Borrow.{Bor}
use Rattle.std.proofs.lemmas.Bool.Decides.{nat_tests}
use Rattle.ild_data.specs.Data as T
use Rattle.ild_data.specs.Data.{Data, depth, items_depth, members_depth}
use Rattle.ild_cbor.specs.declared.items.Items.{Items}
use Rattle.ild_cbor.specs.declared.node.Node.{Node}
use Rattle.ild_cbor.specs.declared.pairs.Pairs.{Pairs}
use Rattle.ild_cbor.specs.Nodes.{HasData}
use Rattle.ild_cbor.specs.Scalar.{kind_of}
use Rattle.ild_cbor.specs.declared.kind.Kind.TheVariants as K
use Rattle.ild_cbor.specs.Steps.{EntriesGive, FindsEntries, FindsItems, HasEntries, HasItems, ItemsGive, items_of, members_of}
use Rattle.ild_schema.specs.declared.def.TypeDef.TheVariants as D
use Rattle.ild_typed.specs.Layer as L
use Rattle.ild_typed.specs.Causes.{why_of}
use Rattle.ild_typed.specs.Pieces.{IsWhy, why_at}
use Rattle.ild_typed.specs.Refused.{AreParts}
use Rattle.ild_typed.specs.Why as W
use Rattle.ild_layer_parts.proofs.Asking.{deep_at, none_at}

max_within : (a b r : ℕ) → nat_le a r ≡ true → nat_le (max a b) r ≡ nat_le b r
max_within a b r h = grind (arith, nat_tests)

max_beyond : (a b r : ℕ) → nat_le a r ≡ false → nat_le (max a b) r ≡ false
max_beyond a b r h = grind (arith, nat_tests)

more_within : (a room : ℕ) → (room ≡ 0 → ⊥) → nat_le a (room - 1) ≡ nat_le (a + 1) room
more_within a room some = grind (arith, nat_tests)

never_within : (a : ℕ) → nat_le (a + 1) 0 ≡ false
never_within a = grind (arith, nat_tests)

-- a list, whose items nest within the room exactly where those that are left do
pub record ItemsNest (t : Data) (room : ℕ) (left : Items) : Type 0 where
  pub all : T.Items
  pub is : t ≡ T.list all
  pub rest : T.Items
  pub has : HasItems left rest
  pub same : nat_le (items_depth all) room ≡ nat_le (items_depth rest) room

pub items_begin : (n : Node) (t : Data) (room : ℕ) (s : Items) → FindsItems n (items_of t) (Some s) → ItemsNest t room s
items_begin n (T.list ds) room s h = record { all = ds; is = refl; rest = ds; has = h.left; same = refl }
items_begin n t room s h = absurd h

pub no_room_list : (n : Node) (t : Data) (s : Items) → FindsItems n (items_of t) (Some s) → false ≡ nat_le (depth t) 0
no_room_list n (T.list ds) s h = sym (never_within (items_depth ds))
no_room_list n t s h = absurd h

module _ (t : Data) (room : ℕ) (s after : Items) (h : ItemsNest t room s) where
  pub items_on : (n : Node) → ItemsGive s (Some n) after → ((d : Data) → HasData n d → true ≡ nat_le (depth d) room) → ItemsNest t room after
  items_on n gives within = by h.rest h.has h.same where
    by : (ds : T.Items) → HasItems s ds → nat_le (items_depth h.all) room ≡ nat_le (items_depth ds) room → ItemsNest t room after
    by T.no_items has same = absurd (gives T.no_items has)
    by (T.item d ds) has same =
        let x = gives (T.item d ds) has in
        record { all = h.all; is = h.is; rest = ds; has = x.left; same = same ∙ max_within (depth d) (items_depth ds) room (sym (within d x.stands)) }

  pub items_beyond : (n : Node) (full : ℕ) → room ≡ full - 1 → (full ≡ 0 → ⊥) → ItemsGive s (Some n) after → ((d : Data) → HasData n d → false ≡ nat_le (depth d) room) → false ≡ nat_le (depth t) full
  items_beyond n full less some gives beyond = by h.rest h.has h.same where
    by : (ds : T.Items) → HasItems s ds → nat_le (items_depth h.all) room ≡ nat_le (items_depth ds) room → false ≡ nat_le (depth t) full
    by T.no_items has same = absurd (gives T.no_items has)
    by (T.item d ds) has same =
        let x = gives (T.item d ds) has in
        sym (max_beyond (depth d) (items_depth ds) room (sym (beyond d x.stands))) ∙ sym same ∙ ap (nat_le (items_depth h.all)) less ∙ more_within (items_depth h.all) full some
        ∙ ap (λ u. nat_le (depth u) full) (sym h.is)

  pub items_end : (full : ℕ) → room ≡ full - 1 → (full ≡ 0 → ⊥) → ItemsGive s None after → true ≡ nat_le (depth t) full
  items_end full less some gives = by h.rest h.has h.same where
    by : (ds : T.Items) → HasItems s ds → nat_le (items_depth h.all) room ≡ nat_le (items_depth ds) room → true ≡ nat_le (depth t) full
    by T.no_items has same =
        sym (nothing_within room) ∙ sym same ∙ ap (nat_le (items_depth h.all)) less ∙ more_within (items_depth h.all) full some ∙ ap (λ u. nat_le (depth u) full) (sym h.is)
      where
        nothing_within : (r : ℕ) → nat_le 0 r ≡ true
        nothing_within r = grind (arith, nat_tests)
    by (T.item d ds) has same = absurd (gives (T.item d ds) has)

-- a map likewise
pub record MembersNest (t : Data) (room : ℕ) (left : Pairs) : Type 0 where
  pub all : T.Members
  pub is : t ≡ T.map all
  pub rest : T.Members
  pub has : HasEntries left rest
  pub same : nat_le (members_depth all) room ≡ nat_le (members_depth rest) room

pub members_begin : (n : Node) (t : Data) (room : ℕ) (s : Pairs) → FindsEntries n (members_of t) (Some s) → MembersNest t room s
members_begin n (T.map ms) room s h = record { all = ms; is = refl; rest = ms; has = h.left; same = refl }
members_begin n t room s h = absurd h

pub no_room_map : (n : Node) (t : Data) (s : Pairs) → FindsEntries n (members_of t) (Some s) → false ≡ nat_le (depth t) 0
no_room_map n (T.map ms) s h = sym (never_within (members_depth ms))
no_room_map n t s h = absurd h

module _ (t : Data) (room : ℕ) (s after : Pairs) (h : MembersNest t room s) where
  pub members_on : (x : Bor (List ℕ) × Node) → EntriesGive s (Some x) after → ((d : Data) → HasData x.1 d → true ≡ nat_le (depth d) room) → MembersNest t room after
  members_on x gives within = by h.rest h.has h.same where
    by : (ms : T.Members) → HasEntries s ms → nat_le (members_depth h.all) room ≡ nat_le (members_depth ms) room → MembersNest t room after
    by T.no_members has same = absurd (gives T.no_members has)
    by (T.member k d ms) has same =
        let y = gives (T.member k d ms) has in
        record { all = h.all; is = h.is; rest = ms; has = y.left; same = same ∙ max_within (depth d) (members_depth ms) room (sym (within d y.stands)) }

  pub members_beyond : (x : Bor (List ℕ) × Node) (full : ℕ) → room ≡ full - 1 → (full ≡ 0 → ⊥) → EntriesGive s (Some x) after → ((d : Data) → HasData x.1 d → false ≡ nat_le (depth d) room)
      → false ≡ nat_le (depth t) full
  members_beyond x full less some gives beyond = by h.rest h.has h.same where
    by : (ms : T.Members) → HasEntries s ms → nat_le (members_depth h.all) room ≡ nat_le (members_depth ms) room → false ≡ nat_le (depth t) full
    by T.no_members has same = absurd (gives T.no_members has)
    by (T.member k d ms) has same =
        let y = gives (T.member k d ms) has in
        sym (max_beyond (depth d) (members_depth ms) room (sym (beyond d y.stands))) ∙ sym same ∙ ap (nat_le (members_depth h.all)) less ∙ more_within (members_depth h.all) full some
        ∙ ap (λ u. nat_le (depth u) full) (sym h.is)

  pub members_end : (full : ℕ) → room ≡ full - 1 → (full ≡ 0 → ⊥) → EntriesGive s None after → true ≡ nat_le (depth t) full
  members_end full less some gives = by h.rest h.has h.same where
    by : (ms : T.Members) → HasEntries s ms → nat_le (members_depth h.all) room ≡ nat_le (members_depth ms) room → true ≡ nat_le (depth t) full
    by T.no_members has same =
        sym (nothing_within room) ∙ sym same ∙ ap (nat_le (members_depth h.all)) less ∙ more_within (members_depth h.all) full some ∙ ap (λ u. nat_le (depth u) full) (sym h.is)
      where
        nothing_within : (r : ℕ) → nat_le 0 r ≡ true
        nothing_within r = grind (arith, nat_tests)
    by (T.member k d ms) has same = absurd (gives (T.member k d ms) has)

-- what is neither a list nor a map
pub flat_within : (n : Node) (t : Data) (room : ℕ) → FindsItems n (items_of t) None → FindsEntries n (members_of t) None → true ≡ nat_le (depth t) room
flat_within n (T.list ds) room a b = absurd a
flat_within n (T.map ms) room a b = absurd b
flat_within n t room a b = sym (nothing_within room) where
  nothing_within : (r : ℕ) → nat_le 0 r ≡ true
  nothing_within r = grind (arith, nat_tests)

-- ---- any data

any_own : (t : Data) → (kind_of t ≡ K.Null → ⊥) → why_of D.Any t ≡ None
any_own T.null h = absurd (h refl)
any_own t h = refl

pub any_kind : (t : Data) → kind_of t ≡ K.Null → why_of D.Any t ≡ Some W.Kind
any_kind T.null e = refl
any_kind t e = absurd cc

within_says : (a r : ℕ) → nat_le a r ≡ true → a ≤ r
within_says a r h = grind (arith, nat_tests)

beyond_says : (a r : ℕ) → nat_le a r ≡ false → r < a
beyond_says a r h = grind (arith, nat_tests)

pub any_deep : (room : ℕ) (t : Data) → (kind_of t ≡ K.Null → ⊥) → nat_le (depth t) room ≡ false → IsWhy room D.Any t W.Depth
any_deep room t some h = inl (deep_at room D.Any t (any_own t some) refl (beyond_says (depth t) room h))

pub any_plain : (room : ℕ) (t : Data) → (kind_of t ≡ K.Null → ⊥) → nat_le (depth t) room ≡ true → (why_at room D.Any t ≡ None) × AreParts D.Any t []
any_plain room t some h = (none_at room D.Any t (any_own t some) refl (within_says (depth t) room h) refl, parts t some) where
  parts : (u : Data) → (kind_of u ≡ K.Null → ⊥) → AreParts D.Any u []
  parts T.null none = absurd (none refl)
  parts u none = (L.any u, refl, refl)

pub text_any : (room : ℕ) (t : Data) (s : List ℕ) → t ≡ T.text s → (why_at room D.Any t ≡ None) × AreParts D.Any t []
text_any room t s is = subst (λ u. (why_at room D.Any u ≡ None) × AreParts D.Any u []) (sym is) (none_at room D.Any (T.text s) refl refl (omega arith) refl, (L.any (T.text s), refl, refl))

pub bytes_any : (room : ℕ) (t : Data) (s : List ℕ) → t ≡ T.bytes s → (why_at room D.Any t ≡ None) × AreParts D.Any t []
bytes_any room t s is = subst (λ u. (why_at room D.Any u ≡ None) × AreParts D.Any u []) (sym is) (none_at room D.Any (T.bytes s) refl refl (omega arith) refl, (L.any (T.bytes s), refl, refl))

pub not_false : (b : Bool) → b ≡ true → b ≡ true
not_false b e = e
