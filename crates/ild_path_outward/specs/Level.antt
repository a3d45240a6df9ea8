-- One level, in whose terms the fold outward is said: handed on to those who end it.
pub use Rattle.ild_path_hop.specs.Levels.{IsCutThere, IsLevel, IsSetThere, LeadsToHamt, LevelAnswer, SetsLevel, with_cut, with_set}
