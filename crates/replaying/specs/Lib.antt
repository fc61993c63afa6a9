-- The definitions of the library, and the laws of the report.
pub mod Replaying
pub mod Report
pub mod ReportLaws
