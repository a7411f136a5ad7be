pub mod LargestLemmas
