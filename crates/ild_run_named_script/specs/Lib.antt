pub mod NamedScripts
