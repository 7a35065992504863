pub mod LineBreaks
