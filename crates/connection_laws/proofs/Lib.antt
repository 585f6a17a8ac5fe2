pub mod EndLemmas
pub mod NetworkLemmas
pub mod RiseLemmas
pub mod StepLemmas
