-- What is answered of an entry in a bucket: it doesn't belong there, it is refused, its value isn't read, or all is well.
use Rattle.std.proofs.Common.{◌≡◌, ◌⊎◌, inl, inr, ℕ, ◌+◌, ◌≤◌, Bool, false, true, List, [], ◌∷◌, length, Option, Some, refl, sym, ◌∙◌, ap, subst, arith}
use Rattle.std.specs.Prelude.{IsUtf8, Result, Ok, Err, reverse, slice_get}
use Rattle.std.proofs.lemmas.Bool.{false≢true}
use Rattle.ild_cbor.specs.declared.why.BlockWhy.{BlockWhy}
use Rattle.ild_cbor.specs.declared.why.BlockWhy.TheVariants as B
use Rattle.ild_cbor.specs.declared.why.Why.{Why}
use Rattle.ild_cbor.specs.declared.why.Why.TheVariants as W
use Rattle.ild_data.specs.Data.{Data, text}
use Rattle.ild_data.specs.Trie.{TrieSlot, bucket}
use Rattle.ild_data.specs.declared.hamt_shape.HamtShape.{HamtShape}
use Rattle.ild_data.specs.declared.id.BlockId.{BlockId}
use Rattle.ild_edges.specs.Gained.{FromBlocks, OnlyReads}
use Rattle.ild_edges.specs.Store.{Moment, block_at}
use Rattle.ild_edges.proofs.Reading.{from_more, reads_none}
use Rattle.ild_schema.specs.Legible.{IsLegible}
use Rattle.ild_schema.specs.Slots.{plainly}
use Rattle.ild_schema.specs.declared.number.Slot.{Slot}
use Rattle.ild_schema.specs.declared.number.TypeNo.{TypeNo}
use Rattle.ild_schema.specs.declared.row.Row.{Row}
use Rattle.ild_schema.specs.declared.val.Val.{Val}
use Rattle.ild_typed.specs.Schema.{IsSchema}
use Rattle.ild_typed.proofs.Fronting.{values_fronts}
use Rattle.ild_typed.proofs.OneValue.{plain_safe}
use Rattle.ild_typed.proofs.WalkSound.{refused_sound}
use Rattle.ild_bulk_walker.specs.Todo.{fits}
use Rattle.ild_bulk_walker.specs.OnTree.{HasNode, IsOnTree}
use Rattle.ild_open_parts.specs.Broken.{HasBrokenBlock, IsWrongPart}
use Rattle.ild_open_parts.specs.Reads.{BrokenPart, HasValue, NoValue, Reads, Stops}
use Rattle.ild_open_parts.specs.Sites.{HasEntry, Site}
use Rattle.ild_open_parts.specs.declared.fault.OpenFault.{OpenFault}
use Rattle.ild_open_parts.specs.declared.fault.OpenFault.TheVariants as F
use Rattle.ild_open_nodes.specs.inside.Beneath.{BrokenIn, BrokenOn, PassesEntry, StandsOn, site}
use Rattle.ild_open_nodes.specs.Nodes.{EntryGiven, EntryOwned}
use Rattle.ild_open_nodes.specs.inside.Passes.{NoneGiven, Passes}
use Rattle.ild_open_nodes.specs.Reading.{EntryChecks, EntryShows, IsWrongItem}

module _ (h : List ℕ → List ℕ) (p : HamtShape) (rows : List Row) (room : ℕ) (key : TypeNo) (u : Slot) (way at : List ℕ) (slots : List TrieSlot) (i : ℕ) (es : List (List ℕ × Data)) (j : ℕ) (e : List ℕ × Data)
    (there : slice_get slots i ≡ Some (bucket es)) (here : slice_get es j ≡ Some e) where
  abbrev Goes : Moment → Result (Unit {0}) OpenFault → Moment → Type 0
  Goes m r n = PassesEntry h p rows room key u way at slots i e m r n

  abbrev Given : List (List ℕ) → ℕ → Type 0
  Given held cost = EntryGiven h p rows room key u held way i e cost

  -- the entry, on a tree on which its node stands
  entry_of : (told : Option (List (List ℕ))) (top : List TrieSlot) (head : List ℕ) → StandsOn p told top head way at slots → HasEntry told (site h p rows room key u head top) at e.0 e.1
  entry_of told top head x = record { up = x.up; on = x.on; slots = slots; node = x.node; index = i; entries = es; stands = there; place = j; is = here }

  -- ---- it doesn't belong there

  pub entry_strays : (m : Moment) (id : BlockId) (k : List ℕ) → id.0 ≡ at → k ≡ e.0 → fits h p way i k ≡ false → Goes m (Err (F.Block id (B.Shape W.Trie))) m
  entry_strays m id k same is stray =
      let misfit : fits h p way i e.0 ≡ false = ap (fits h p way i) (sym is) ∙ stray in
      record {
        answer = (
          λ held cost told g. false≢true (sym misfit ∙ g.place),
          record {
            each = λ top head x.
                inl (record {
                  up = x.up;
                  on = subst (IsOnTree p m.blocks top head x.up) (sym same) x.on;
                  wrong = (
                    refl,
                    inr (record {
                      slots = slots;
                      node = subst (λ a. HasNode p m.blocks top x.up a slots) (sym same) x.node;
                      wrong = inl (record { index = i; entries = es; stands = there; place = j; key = e.0; value = e.1; is = here; stray = ap (λ w. fits h p w i e.0) (sym x.way_is) ∙ misfit });
                    }),
                  );
                });
          },
        );
        only = reads_none m;
        gets = λ held cost told g. omega arith;
      }

  -- ---- it is refused

  module _ (schema : IsSchema rows) (legible : IsLegible rows) where
    never : (held : List (List ℕ)) (cost : ℕ) (why : Why) → Given held cost → IsWrongPart rows room key u e.0 e.1 why → ⊥
    never held cost why g (inl w) = refused_sound rows legible.clear legible.delims room 0 (plainly key) (plain_safe rows (plainly key) refl) (text e.0) w.1.refusal w.1.refused g.keyed.1
    never held cost why g (inr w) =
        let y = values_fronts h rows schema room u g.value e.1 g.is.fits g.is.tree in
        refused_sound rows legible.clear legible.delims room 0 u g.safe e.1 w.1.refusal w.1.refused (y.0, y.1.fits, y.1.tree)

    refusal : (m : Moment) (id : BlockId) (f : OpenFault) → id.0 ≡ at → EntryChecks rows room key u e.0 e.1 id (Err f) → Stops (NoneGiven (λ held. EntryOwned h p rows room key u held way i e) Given (BrokenIn h p rows room key u way at slots) m) (BrokenIn h p rows room key u way at slots m m) m f m
    refusal m id (F.Block b why) same w = (
      λ held cost told g. never held cost w.1.cause g w.1.wrong,
      record {
        each = λ top head x.
            inr (inl (record {
              key = e.0;
              value = e.1;
              entry = subst (λ a. HasEntry m.blocks (site h p rows room key u head top) a e.0 e.1) (sym (ap (λ (q : BlockId). q.0) w.0 ∙ same)) (entry_of m.blocks top head x);
              cause = w.1.cause;
              told_is = w.1.told_is;
              wrong = w.1.wrong;
            }));
      },
    )
    refusal m id F.Store same w = absurd w
    refusal m id F.Memory same w = tt

    pub entry_refused : (m : Moment) (id : BlockId) (k : List ℕ) (f : OpenFault) → id.0 ≡ at → k ≡ e.0 → EntryChecks rows room key u k e.1 id (Err f) → Goes m (Err f) m
    entry_refused m id k f same is w =
        record { answer = refusal m id f same (subst (λ q. EntryChecks rows room key u q e.1 id (Err f)) is w); only = reads_none m; gets = λ held cost told g. omega arith }

  -- ---- its value isn't read

  module _ (keep : Bool) (m n : Moment) where
    stops : (f : OpenFault) → Reads h at rows room (u, e.1) keep m (Err f) n → Stops (NoneGiven (λ held. EntryOwned h p rows room key u held way i e) Given (BrokenIn h p rows room key u way at slots) m) (BrokenIn h p rows room key u way at slots m n) m f n
    stops (F.Block id why) read = (
      λ held cost told g. read.answer.0 held g.value told g.is,
      record {
        each = λ top head x.
            inr (inr (record { block = at; key = e.0; value = e.1; entry = entry_of m.blocks top head x; wrong = read.answer.1 }));
      },
    )
    stops F.Store read = read.answer
    stops F.Memory read = tt

    gets_few : (r : Result Val OpenFault) → Reads h at rows room (u, e.1) keep m r n → (held : List (List ℕ)) (cost : ℕ) → m.blocks ≡ Some held → Given held cost → n.gets ≤ m.gets + cost
    gets_few r read held cost told g = let one = read.gets held g.value told g.is in let sum = g.sum in omega (arith, one, sum)

    pub entry_stops : (f : OpenFault) → Reads h at rows room (u, e.1) keep m (Err f) n → Goes m (Err f) n
    entry_stops f read = record { answer = stops f read; only = read.only; gets = gets_few (Err f) read }

    -- ---- it is read

    pub entry_read : (k : List ℕ) (id : BlockId) (val : Val) → k ≡ e.0 → IsUtf8 e.0 → fits h p way i k ≡ true → EntryChecks rows room key u k e.1 id (Ok tt) → Reads h at rows room (u, e.1) keep m (Ok val) n → Goes m (Ok tt) n
    entry_read k id val is utf8 place shows read = record {
      answer = from_more n (λ held. HasValue h rows room (u, e.1) keep held val) (λ held. EntryOwned h p rows room key u held way i e)
          (λ held x. record {
            place = ap (fits h p way i) (sym is) ∙ place;
            keyed = (utf8, (subst (λ q. EntryShows rows room key u q e.1) is shows).key);
            value = x.value;
            is = x.is;
          }) read.answer;
      only = read.only;
      gets = gets_few (Ok val) read;
    }
