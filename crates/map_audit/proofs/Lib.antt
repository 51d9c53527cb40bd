pub mod AuditLemmas
pub mod SweepLemmas
