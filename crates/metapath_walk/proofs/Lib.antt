pub mod SchemeLaws
