-- A map of which no entry is left is the empty map.
use Rattle.std.proofs.Common.{◌≡◌, ◌∷◌, Some, None, refl}
use Rattle.ild_data.specs.Data as T
use Rattle.ild_data.specs.Data.{Data}
use Rattle.ild_typed.specs.Strings.{members_in}
use Rattle.ild_layer_piece.specs.declared.walk.MapEntries.{MapEntries}
use Rattle.ild_layer_piece.specs.Entries.{EntriesGive, Maps}

pub none_left : (t : Data) (s after : MapEntries) → Maps (members_in t) (Some s) → EntriesGive s None after → Some (T.map T.no_members) ≡ Some t
none_left (T.map T.no_members) s after left gives = refl
none_left (T.map (T.member k d ms)) s after left gives = absurd (gives ((k, d) ∷ T.members_list ms) left)
none_left T.null s after left gives = absurd left
none_left (T.boolean b) s after left gives = absurd left
none_left (T.integer n) s after left gives = absurd left
none_left (T.text x) s after left gives = absurd left
none_left (T.bytes x) s after left gives = absurd left
none_left (T.list ds) s after left gives = absurd left
none_left (T.link x) s after left gives = absurd left
