pub mod DomainLemmas
pub mod ForwardingLemmas
pub mod EachLemmas
pub mod OpenLemmas
pub mod Views
pub mod ChangeLemmas
pub mod CopyLemmas
pub mod FewLemmas
