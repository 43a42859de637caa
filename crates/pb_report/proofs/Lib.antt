mod ReportExample
