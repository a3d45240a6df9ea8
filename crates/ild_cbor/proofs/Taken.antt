-- What is read is the spelling of a tree.
use Rattle.std.proofs.Common.{◌≡◌, ℕ, zero, suc, ◌+◌, ◌/◌, ◌%◌, ◌^◌, ◌<◌, ◌≤◌, true, false, ltb, List, [], ◌∷◌, ◌++◌, length, Option, Some, None, Ok, refl, sym, ap, subst, append-nil, arith, inl, inr}
use Rattle.std.specs.Prelude.{◌==◌, pos, negsuc}
use Rattle.std.specs.Ordering.{is_lt}
use Rattle.std.specs.declared.cmp.Ordering.{Ordering}
use Rattle.std.specs.declared.cmp.Ordering.TheVariants.{Less, Equal, Greater}
use Rattle.std.specs.Str.{is_utf8}
use Rattle.std.proofs.lemmas.Bool.{eqb-true, eqb-false, ltb-true}
use Rattle.std.proofs.lemmas.Int.{ints}
use Rattle.std.proofs.lemmas.Str.{IsUtf8-from_is_utf8}
use Rattle.ild_data.specs.Bytes.{AreBytes}
use Rattle.ild_data.specs.Data.{Data, null, boolean, integer, text, bytes, list, map, Items, no_items, item, Members, no_members, member, items_list, members_list, depth, items_depth, members_depth}
use Rattle.ild_data.specs.Spell.{head, spell, spell_text, spell_bytes, spell_items, spell_members}
use Rattle.ild_data.specs.Tree.{IsTree, AreTrees, AreEntries}
use Rattle.ild_data.specs.Key.{key_cmp}
use Rattle.ild_cbor.specs.declared.fault.CborKind.TheVariants.{KeyOrder, Range, Utf8, Depth, Tag}
use Rattle.ild_cbor.specs.Reading.{◌>>=◌, Read, demand, stop_at, may_follow, cut_at, number_at, key_at, link_at, items_at, members_at, simple_at, body_at, item_by, item_at, part_at}
use Rattle.ild_cbor.proofs.Steps.{bind_ok, refuse_ok, demand_ok, chosen, Takes, Takes-then, ok_is}
use Rattle.ild_cbor.proofs.Heads.{cut_takes, number_takes}
use Rattle.ild_cbor.proofs.Strings.{key_takes, link_takes, head_front}
use Rattle.ild_cbor.proofs.Again.{Follows}

-- a tree that was read, nested less deep than room
pub record Took (room : ℕ) (b : List ℕ) (x : Data × List ℕ) : Type 0 where
  pub takes : Takes b (spell x.0) x.1
  pub tree : IsTree x.0
  pub shallow : depth x.0 < room

-- what a reader of parts, beneath a container with this much room, reads is spelled
abbrev pub ReadsSpelled : ℕ → (List ℕ → Read Data) → Type 0
ReadsSpelled room r = (b : List ℕ) (x : Data × List ℕ) → AreBytes b → 0 < room → r b ≡ Ok x → Took room b x

-- ---- lists

record TookItems (room n : ℕ) (b : List ℕ) (x : Items × List ℕ) : Type 0 where
  pub takes : Takes b (spell_items x.0) x.1
  pub trees : AreTrees x.0
  pub shallow : items_depth x.0 < room
  pub count : length (items_list x.0) ≡ n

items_taken : (room : ℕ) (r : List ℕ → Read Data) (spelled : ReadsSpelled room r) (n : ℕ) (b : List ℕ) (x : Items × List ℕ) → AreBytes b → 0 < room → items_at r n b ≡ Ok x → TookItems room n b x
unfolding items_at
items_taken room r spelled zero b x fits lt e =
    subst (TookItems room 0 b) (ok_is (no_items, b) x e) (record { takes = record { parts = refl; fits = fits }; trees = tt; shallow = lt; count = refl })
items_taken room r spelled (suc n) b x fits lt e =
    let d = bind_ok (r b) (λ d. items_at r n d.1 >>= λ ds. Ok (item d.0 ds.0, ds.1)) x e in
    let ds = bind_ok (items_at r n d.0.1) (λ ds. Ok (item d.0.0 ds.0, ds.1)) x d.2 in
    let first = spelled b d.0 fits lt d.1 in
    let others = items_taken room r spelled n d.0.1 ds.0 first.takes.fits lt ds.1 in
    subst (TookItems room (suc n) b) (ok_is (item d.0.0 ds.0.0, ds.0.1) x ds.2) (record {
      takes = Takes-then b (spell d.0.0) d.0.1 (spell_items ds.0.0) ds.0.1 first.takes others.takes;
      trees = (first.tree, others.trees);
      shallow = omega (arith, first.shallow, others.shallow);
      count = ap suc others.count;
    })

-- ---- maps

record TookMembers (room : ℕ) (before : Option (List ℕ)) (n : ℕ) (b : List ℕ) (x : Members × List ℕ) : Type 0 where
  pub takes : Takes b (spell_members x.0) x.1
  pub entries : AreEntries x.0
  pub follows : Follows before x.0
  pub shallow : members_depth x.0 < room
  pub count : length (members_list x.0) ≡ n

nothing_follows : (before : Option (List ℕ)) → Follows before no_members
nothing_follows None = tt
nothing_follows (Some k) = tt

is_less : (o : Ordering) → is_lt o ≡ true → o ≡ Less
is_less Less e = refl
is_less Equal e = absurd cc
is_less Greater e = absurd cc

follows_if : (before : Option (List ℕ)) (k : List ℕ) (d : Data) (ms : Members) → may_follow before k ≡ true → Follows before (member k d ms)
follows_if None k d ms e = tt
follows_if (Some l) k d ms e = is_less (key_cmp l k) e

members_taken : (room : ℕ) (r : List ℕ → Read Data) (spelled : ReadsSpelled room r) (before : Option (List ℕ)) (n : ℕ) (b : List ℕ) (x : Members × List ℕ)
    → AreBytes b → 0 < room → members_at r before n b ≡ Ok x → TookMembers room before n b x
unfolding members_at
members_taken room r spelled before zero b x fits lt e =
    subst (TookMembers room before 0 b) (ok_is (no_members, b) x e) (record { takes = record { parts = refl; fits = fits }; entries = tt; follows = nothing_follows before; shallow = lt; count = refl })
members_taken room r spelled before (suc n) b x fits lt e =
    let k = bind_ok (key_at b) (λ k. demand (may_follow before k.0) (stop_at KeyOrder b) >>= λ u. (r k.1 >>= λ d. (members_at r (Some k.0) n d.1 >>= λ ms. Ok (member k.0 d.0 ms.0, ms.1)))) x e in
    let g = demand_ok (may_follow before k.0.0) (stop_at KeyOrder b) (r k.0.1 >>= λ d. (members_at r (Some k.0.0) n d.1 >>= λ ms. Ok (member k.0.0 d.0 ms.0, ms.1))) x k.2 in
    let d = bind_ok (r k.0.1) (λ d. members_at r (Some k.0.0) n d.1 >>= λ ms. Ok (member k.0.0 d.0 ms.0, ms.1)) x g.1 in
    let ms = bind_ok (members_at r (Some k.0.0) n d.0.1) (λ ms. Ok (member k.0.0 d.0.0 ms.0, ms.1)) x d.2 in
    let key = key_takes b k.0 fits k.1 in
    let value = spelled k.0.1 d.0 key.0.fits lt d.1 in
    let others = members_taken room r spelled (Some k.0.0) n d.0.1 ms.0 value.takes.fits lt ms.1 in
    subst (TookMembers room before (suc n) b) (ok_is (member k.0.0 d.0.0 ms.0.0, ms.0.1) x ms.2) (record {
      takes = Takes-then b (spell_text k.0.0 ++ spell d.0.0) d.0.1 (spell_members ms.0.0) ms.0.1 (Takes-then b (spell_text k.0.0) k.0.1 (spell d.0.0) d.0.1 key.0 value.takes) others.takes;
      entries = (key.1, value.tree, others.follows, others.entries);
      follows = follows_if before k.0.0 d.0.0 ms.0.0 g.0;
      shallow = omega (arith, value.shallow, others.shallow);
      count = ap suc others.count;
    })

-- ---- items

-- what was read behind a head
record TookBody (room major n : ℕ) (b : List ℕ) (x : Data × List ℕ) : Type 0 where
  pub tail : List ℕ
  pub takes : Takes b tail x.1
  pub spells : head major n ++ tail ≡ spell x.0
  pub tree : IsTree x.0
  pub shallow : depth x.0 ≤ room

some_room : (room : ℕ) → (room == 0) ≡ false → 0 < room
some_room zero e = absurd cc
some_room (suc room) e = omega arith

body_taken : (room : ℕ) (r : List ℕ → Read Data) (spelled : ReadsSpelled room r) (from : List ℕ) (major n : ℕ) (b : List ℕ) (x : Data × List ℕ)
    → AreBytes b → major < 7 → n < 2 ^ 64 → body_at room r from major n b ≡ Ok x → TookBody room major n b x
unfolding body_at
body_taken room r spelled from zero n b x fits lt limit e =
    subst (TookBody room 0 n b) (ok_is (integer (pos n), b) x e) (record { tail = []; takes = record { parts = refl; fits = fits }; spells = append-nil (head 0 n); tree = omega (arith, ints); shallow = omega arith })
body_taken room r spelled from (suc zero) n b x fits lt limit e =
    let g = demand_ok (ltb n (2 ^ 63)) (stop_at Range from) (Ok (integer (negsuc n), b)) x e in
    let small : n < 2 ^ 63 = ltb-true _ _ g.0 in
    subst (TookBody room 1 n b) (ok_is (integer (negsuc n), b) x g.1) (record { tail = []; takes = record { parts = refl; fits = fits }; spells = append-nil (head 1 n); tree = omega (arith, ints); shallow = omega arith })
body_taken room r spelled from (suc (suc zero)) n b x fits lt limit e =
    let s = bind_ok (cut_at n b) (λ s. Ok (bytes s.0, s.1)) x e in
    let cut = cut_takes n b s.0 fits s.1 in
    subst (TookBody room 2 n b) (ok_is (bytes s.0.0, s.0.1) x s.2) (record { tail = s.0.0; takes = cut.0; spells = ap (λ (k : ℕ). head 2 k ++ s.0.0) (sym cut.1); tree = cut.2; shallow = omega arith })
body_taken room r spelled from (suc (suc (suc zero))) n b x fits lt limit e =
    let s = bind_ok (cut_at n b) (λ s. demand (is_utf8 s.0) (stop_at Utf8 from) >>= λ u. Ok (text s.0, s.1)) x e in
    let g = demand_ok (is_utf8 s.0.0) (stop_at Utf8 from) (Ok (text s.0.0, s.0.1)) x s.2 in
    let cut = cut_takes n b s.0 fits s.1 in
    subst (TookBody room 3 n b) (ok_is (text s.0.0, s.0.1) x g.1) (record { tail = s.0.0; takes = cut.0; spells = ap (λ (k : ℕ). head 3 k ++ s.0.0) (sym cut.1); tree = IsUtf8-from_is_utf8 s.0.0 g.0; shallow = omega arith })
body_taken room r spelled from (suc (suc (suc (suc zero)))) n b x fits lt limit e =
    let g = refuse_ok (room == 0) (stop_at Depth from) (items_at r n b >>= λ ds. Ok (list ds.0, ds.1)) x e in
    let ds = bind_ok (items_at r n b) (λ ds. Ok (list ds.0, ds.1)) x g.1 in
    let t = items_taken room r spelled n b ds.0 fits (some_room room g.0) ds.1 in
    subst (TookBody room 4 n b) (ok_is (list ds.0.0, ds.0.1) x ds.2)
    (record { tail = spell_items ds.0.0; takes = t.takes; spells = ap (λ (k : ℕ). head 4 k ++ spell_items ds.0.0) (sym t.count); tree = t.trees; shallow = omega (arith, t.shallow) })
body_taken room r spelled from (suc (suc (suc (suc (suc zero))))) n b x fits lt limit e =
    let g = refuse_ok (room == 0) (stop_at Depth from) (members_at r None n b >>= λ ms. Ok (map ms.0, ms.1)) x e in
    let ms = bind_ok (members_at r None n b) (λ ms. Ok (map ms.0, ms.1)) x g.1 in
    let t = members_taken room r spelled None n b ms.0 fits (some_room room g.0) ms.1 in
    subst (TookBody room 5 n b) (ok_is (map ms.0.0, ms.0.1) x ms.2)
    (record { tail = spell_members ms.0.0; takes = t.takes; spells = ap (λ (k : ℕ). head 5 k ++ spell_members ms.0.0) (sym t.count); tree = t.entries; shallow = omega (arith, t.shallow) })
body_taken room r spelled from (suc (suc (suc (suc (suc (suc zero)))))) n b x fits lt limit e =
    let g = demand_ok (n == 42) (stop_at Tag from) (link_at from b) x e in
    let l = link_takes from b x fits g.1 in
    let tag : n ≡ 42 = eqb-true _ _ g.0 in
    subst (λ (y : Data). TookBody room 6 n b (y, x.1)) (sym l.is)
    (record { tail = spell_bytes (0 ∷ l.cid); takes = l.takes; spells = ap (λ (k : ℕ). head 6 k ++ spell_bytes (0 ∷ l.cid)) tag; tree = (l.form, l.all); shallow = omega arith })
body_taken room r spelled from (suc (suc (suc (suc (suc (suc (suc m))))))) n b x fits lt limit e = absurd (omega arith)

simple_is : (c k : ℕ) (b : List ℕ) (d : Data) (x : Data × List ℕ) (room : ℕ) → c / 32 ≡ 7 → c % 32 ≡ k → spell d ≡ (224 + k) ∷ [] → IsTree d → depth d ≡ 0 → AreBytes b → (d, b) ≡ x → Took (suc room) (c ∷ b) x
simple_is c k b d x room high low spells tree flat fits is =
    let first : 224 + k ≡ c = omega arith in
    subst (Took (suc room) (c ∷ b)) is (record { takes = record { parts = rw (spells, first) refl; fits = fits }; tree = tree; shallow = omega arith })

simple_taken : (room c : ℕ) (from b : List ℕ) (x : Data × List ℕ) → AreBytes b → c / 32 ≡ 7 → simple_at from (c % 32) b ≡ Ok x → Took (suc room) (c ∷ b) x
unfolding simple_at
simple_taken room c from b x fits high e =
    elim (chosen (c % 32 == 20) _ _ _ e) [
      | inl a ↦ simple_is c 20 b (boolean false) x room high (eqb-true _ _ a.0) refl tt refl fits (ok_is (boolean false, b) x a.1)
      | inr a ↦ elim (chosen (c % 32 == 21) _ _ _ a.1) [
        | inl f ↦ simple_is c 21 b (boolean true) x room high (eqb-true _ _ f.0) refl tt refl fits (ok_is (boolean true, b) x f.1)
        | inr f ↦ elim (chosen (c % 32 == 22) _ _ _ f.1) [
          | inl g ↦ simple_is c 22 b null x room high (eqb-true _ _ g.0) refl tt refl fits (ok_is (null, b) x g.1)
          | inr g ↦ elim (chosen (c % 32 == 25) _ _ _ g.1) [
            | inl h ↦ absurd cc
            | inr h ↦ elim (chosen (c % 32 == 26) _ _ _ h.1) [
              | inl i ↦ absurd cc
              | inr i ↦ elim (chosen (c % 32 == 27) _ _ _ i.1) [ inl j ↦ absurd cc | inr j ↦ absurd cc ]
            ]
          ]
        ]
      ]
    ]

item_by_taken : (room : ℕ) (r : List ℕ → Read Data) (spelled : ReadsSpelled room r) (b : List ℕ) (x : Data × List ℕ) → AreBytes b → item_by room r b ≡ Ok x → Took (suc room) b x
unfolding item_by
item_by_taken room r spelled [] x fits e = absurd cc
item_by_taken room r spelled (c ∷ b) x fits e =
    let byte : c < 256 = fits.0 in
    elim (chosen (c / 32 == 7) _ _ _ e) [
      | inl a ↦ simple_taken room c (c ∷ b) b x fits.1 (eqb-true _ _ a.0) a.1
      | inr a ↦
          let n = bind_ok (number_at (c ∷ b) (c % 32) b) (λ n. body_at room r (c ∷ b) (c / 32) n.0 n.1) x a.1 in
          let t = number_takes (c ∷ b) (c % 32) b n.0 fits.1 n.1 in
          let not_seven = eqb-false (c / 32) 7 a.0 in
          let body = body_taken room r spelled (c ∷ b) (c / 32) n.0.0 n.0.1 x t.takes.fits (omega arith) t.is.limit n.2 in
          let front = head_front c (c / 32) n.0.0 b t.tail n.0.1 refl t.is t.takes in
          let both = Takes-then (c ∷ b) (head (c / 32) n.0.0) n.0.1 body.tail x.1 front body.takes in
          record { takes = subst (λ (s : List ℕ). Takes (c ∷ b) s x.1) body.spells both; tree = body.tree; shallow = omega (arith, body.shallow) }
    ]

parts_taken : (room : ℕ) → ReadsSpelled room (part_at room)
unfolding part_at
parts_taken zero b x fits lt e = absurd (omega arith)
parts_taken (suc room) b x fits lt e = item_by_taken room (part_at room) (parts_taken room) b x fits e

pub item_taken : (room : ℕ) (b : List ℕ) (x : Data × List ℕ) → AreBytes b → item_at room b ≡ Ok x → Took (suc room) b x
item_taken room b x fits e = item_by_taken room (part_at room) (parts_taken room) b x fits e
