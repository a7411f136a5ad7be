pub mod ReseedLemmas
